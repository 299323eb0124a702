-- The writers and the scanners of a store are of the memory of its first scanner.
use Rattle.std.proofs.Common.{◌≡◌, ℕ, ◌<◌, List, [], ◌∷◌, length, map, slice_get, get_or, Some, ap, sym, subst, ◌∙◌}
use Rattle.std.proofs.Common.{refl, arith}
use Rattle.std.specs.Option.{option_map}
use Rattle.std.proofs.lemmas.Option.{slice_get-get_or, slice_get-map, slice_get_within}
use Rattle.snap_history.specs.{History.number_after, History.value_after, Pairs.Pairs}
use Rattle.snap_memory.specs.Registers.{RegistersId}
use Rattle.snap_register.specs.{declared.plan.Plan.Plan, Rule.segments, History.starts, Seat.Known, Seat.own_of}
use Rattle.snap_writer.specs.Writer.{WriterState}
use Rattle.snap_restart.specs.{Closed.AreBack, Closed.IsSeatAt, Crash.AreOpened, Opened.IsOpened}
use Rattle.snap_service.specs.{Asked.AreAsOpened, Memory.AreWriters, Memory.number_of}
use Rattle.snap_serve.specs.Scanners.{AreScanners, MayServe, MayServeOpened, table_of, plan_of}
use Rattle.snap_disk.specs.declared.disk.Disk as Disk

firsts : (table : RegistersId) (plan : Plan) (rs : List Known) → 0 < length rs
    → ((k : ℕ) (b : Known) → slice_get rs k ≡ Some b → IsSeatAt table plan 0 0 b)
    → (table_of rs ≡ table) × (plan_of rs ≡ plan)
firsts table plan [] some are = absurd (omega arith)
firsts table plan (b ∷ rest) some are = let is = are 0 b refl in (is.table_is, is.plan_is)

pub writers_of : {D : Type 0} (ws : List (WriterState D)) (rs : List Known) → AreBack ws rs
    → AreWriters (table_of rs) (plan_of rs) ws
writers_of ws rs back =
    let here = firsts back.table back.plan rs back.some_scanner back.scanners_are in
    record {
      all = back.all ∙ ap segments (sym here.1);
      each = λ i w there. let is = back.writers_are i w there in (
        record { table_is = is.table_is ∙ sym here.0; plan_is = is.plan_is ∙ sym here.1 },
        is.low_is,
      );
    }

pub scanners_of : {D : Type 0} (ws : List (WriterState D)) (rs : List Known) → AreBack ws rs
    → AreScanners (table_of rs) (plan_of rs) rs
scanners_of ws rs back k b there =
    let here = firsts back.table back.plan rs back.some_scanner back.scanners_are in
    let is = back.scanners_are k b there in
    record { table_is = is.table_is ∙ sym here.0; plan_is = is.plan_is ∙ sym here.1 }

-- the writers of an opening are as they were opened
pub as_opened : {D : Type 0} (disk : Disk.Ghosts D) (devices : List D) (ws : List (WriterState D)) (rs : List Known)
    → Pairs (IsOpened disk (length devices)) devices (map (λ w. w.segment) ws) → AreOpened disk devices ws
    → AreBack ws rs → AreAsOpened ws
as_opened {D = D} disk devices ws rs opened crash back i w there =
    let is = crash.writers_are i w there in
    let starts_are = crash.starts_are i w there in
    let Found : Plan → ℕ → Type 0 = λ p k. (w.segment.number ≡ number_after (starts p) [] k)
    × (w.segment.value ≡ value_after (starts p) [] k) in
    let found : Found crash.plan i = (omega (arith, starts_are.0), starts_are.1) in
    let inside : i < length devices = omega (arith, slice_get_within ws i w there, crash.one_each) in
    let segment = slice_get-map (λ (x : WriterState D). x.segment) ws i
    ∙ ap (option_map (λ (x : WriterState D). x.segment)) there in
    record {
      found = subst (λ p. Found p (own_of w.seat)) (sym is.plan_is) (subst (Found crash.plan) (sym is.low_is) found);
      unfenced = (opened.each i (get_or devices i w.segment.device) w.segment
          (slice_get-get_or devices i w.segment.device inside) segment).unfenced;
    }

-- the scanners of an opening are of the memory of its writers
pub may_serve : {D : Type 0} (disk : Disk.Ghosts D) (may : ℕ → Type 0) (devices : List D) (ws : List (WriterState D))
    (rs : List Known) → MayServeOpened disk may devices → AreOpened disk devices ws → AreBack ws rs → MayServe may rs
may_serve disk may devices [] rs serves crash back k b there = let some = back.some in absurd (omega arith)
may_serve disk may devices (w ∷ ws) rs serves crash back k b there =
    subst (λ t. may (number_of t)) ((back.writers_are 0 w refl).table_is ∙ sym (back.scanners_are k b there).table_is)
    (serves (w ∷ ws) crash 0 w refl)

-- the first scanner's memory may be served
pub serves_first : (may : ℕ → Type 0) (rs : List Known) → 0 < length rs → MayServe may rs
    → may (number_of (table_of rs))
serves_first may [] some serves = absurd (omega arith)
serves_first may (b ∷ rest) some serves = serves 0 b refl
