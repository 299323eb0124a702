use Rattle.std.proofs.Common.{◌≡◌, inl, inr, ℕ, Bool, true, List, Result, Ok, Err, is_ok, rules}
use Rattle.std.specs.Prelude.{IsTrue, ◌↔◌, OnOk}
use Rattle.snap_disk.specs.Device.{IsSettled, IsSynced}
use Rattle.snap_slot.{proofs.Blank.gate_leaves, proofs.Blank.formatted, specs.Layout.IsUnformatted}
use Rattle.snap_segment.specs.{Calls.Leaves, Calls.LeavesAsBefore, Creation.IsMadeOrLeft}
use Rattle.snap_segment.proofs.{Leaves.then, Leaves.weaker, Made.made_bytes}
use Rattle.snap_disk.specs.declared.disk.Disk as Disk
use Rattle.snap_segment.proofs.creation.create.Goals as goal

-- from a call that succeeds exactly if the result is Ok, what holds at Ok carries over
on_ok_too : {T E F P Q : Type 0} (call : Result T E) (answer : Result T F)
    → is_ok answer ≡ is_ok call → (P → Q) → OnOk call P → OnOk answer Q
on_ok_too (Ok x) (Ok y) same more holds = more holds
on_ok_too (Ok x) (Err e) same more holds = tt
on_ok_too (Err e) (Ok y) same more holds = absurd cc
on_ok_too (Err e) (Err f) same more holds = tt

-- after the gate was read and found closed, and the front was written
front_leaves : {D : Type 0} (disk : Disk.Ghosts D) (i n k : ℕ) (v : List ℕ) (old looked front : D) (found : Bool)
    → LeavesAsBefore disk old looked → IsSynced (disk.device old) (disk.device looked) → found ≡ true → IsTrue found
    ↔ IsUnformatted (disk.device old).bytes → (IsSettled (disk.device looked) → IsUnformatted (disk.device looked).bytes
    → Leaves disk looked front IsUnformatted) → Leaves disk old front (IsMadeOrLeft i n k v (disk.device old))
front_leaves disk i n k v old looked front found kept synced closed tells leaves = search rules

pub returns-in-Err-clause-leaves : goal.returns-in-Err-clause-leaves
returns-in-Err-clause-leaves g c honest = weaker g.D.Disk (c.is_unformatted.ensures.kept honest) (λ b left. inl left)

pub returns-in-Err-write_front-clause-leaves : goal.returns-in-Err-write_front-clause-leaves
returns-in-Err-write_front-clause-leaves g c honest =
    let looked = c.write_front.ensures.honest honest in
    front_leaves g.D.Disk _ _ _ _ _ _ _ _ (c.is_unformatted.ensures.kept looked) (c.in-Ok-true.ensures.settled looked)
    c.in-Ok-true.field-0-test (c.in-Ok-true.ensures.unformatted looked) (c.write_front.ensures.leaves honest)

pub returns-clause-leaves : goal.returns-clause-leaves
returns-clause-leaves g c honest =
    let front = c.write_synced.ensures.honest honest in
    let looked = c.write_front.ensures.honest front in
    then g.D.Disk (front_leaves g.D.Disk _ _ _ _ _ _ _ _ (c.is_unformatted.ensures.kept looked)
    (c.in-Ok-true.ensures.settled looked) c.in-Ok-true.field-0-test (c.in-Ok-true.ensures.unformatted looked)
    (c.write_front.ensures.leaves front))
    (record { any_time = c.write_synced.ensures.any_time honest; now = c.write_synced.ensures.now honest })
    (λ b p. p) (λ b left. inr (gate_leaves c.args.index c.args.count c.args.number c.args.value.now c.requires.below
    c.requires.few c.requires.number c.requires.fits _ (c.in-Ok.ensures.prepared front) b left))

pub returns-clause-last : goal.returns-clause-last
returns-clause-last g c honest = on_ok_too c.write_synced.result c.map_err.result c.map_err.ensures.variant
    (formatted c.args.index c.args.count c.args.number c.args.value.now c.requires.below c.requires.few
    c.requires.number c.requires.fits _ (c.in-Ok.ensures.prepared (c.write_synced.ensures.honest honest))
    (g.D.Disk.device c.write_synced.new.device)) (c.write_synced.ensures.written honest)

pub returns-clause-bytes : goal.returns-clause-bytes
returns-clause-bytes g c honest = on_ok_too c.write_synced.result c.map_err.result c.map_err.ensures.variant
    (made_bytes c.args.index c.args.count c.args.number c.args.value.now _ (g.D.Disk.device c.write_synced.new.device)
    (c.in-Ok.ensures.prepared (c.write_synced.ensures.honest honest))) (c.write_synced.ensures.written honest)

pub returns-clause-gate : goal.returns-clause-gate
returns-clause-gate g c = search rules
