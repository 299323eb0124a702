-- Commands between two openings, by their contracts.
use Rattle.std.proofs.Common.{arith, ◌≡◌, ℕ, ◌+◌, false, inl, inr, List, [], ◌∷◌, Option, Some, Result, Ok, Err, IfOk}
use Rattle.std.proofs.Common.{OnOk, ⊎_elim, slice_get, slice_set, refl, sym, ◌∙◌, length-set}
use Rattle.std.proofs.lemmas.{Option.slice_get_within, Option.same_Some, Bool.cases_eq}
use Rattle.snap_disk.specs.{Device.Device, Device.MayLeave, Time.LeavesOnly}
use Rattle.snap_slot.specs.{Layout.IsFileOf, States.IsAtRest, States.IsEither}
use Rattle.snap_slot.proofs.Rest.{at_rest_file, at_rest_leaves}
use Rattle.snap_segment.specs.{Old.OldHolds, Segment.SegmentState}
use Rattle.snap_history.proofs.Lists.{get-set_same, get-set_other}
use Rattle.snap_writer.proofs.Crashes.{CountsNow}
use Rattle.snap_restart.specs.Restarts.{Put, PutCutOff, Spared, Remade, Works, from_there}
use Rattle.snap_order.specs.declared.{order.FileOrder.FileOrder, status.Status.Status}
use Rattle.snap_file_commands.specs.Commands.{EndsOrder, EndsMaking, IsNewlyMade, IsStored}
use Rattle.snap_file_commands.specs.Foundation.{IsBlank, EndsFounding}
use Rattle.snap_file_commands.specs.{declared.fault.CommandFault.CommandFault, Effects.LeavesNoMore}
use Rattle.snap_file_commands.specs.{declared.migration.MigrationFault.MigrationFault, Migration.EndsMigration}
use Rattle.snap_laws.specs.Between.{GoesOnWith, PutGoesOn, CutOffGoesOn, BeginsAgain, InitGoesOn}
use Rattle.snap_order.specs.declared.order.FileOrder.TheVariants as order
use Rattle.snap_disk.specs.declared.disk.Disk as Disk

module _ {D : Type 0} (disk : Disk.Ghosts D) where
  -- the other devices are the same
  works : (i : ℕ) (leaves : List ℕ → Type 0) (devices : List D) (old new : D) → slice_get devices i ≡ Some old
      → ((b : List ℕ) → MayLeave (disk.device new) b → leaves b) → Works disk i leaves devices (slice_set devices i new)
  works i leaves devices old new at left = grind (arith, length-set, slice_get_within, get-set_same, get-set_other)

  stored_goes_on : (i n c : ℕ) (v : List ℕ) (old new : D) → IsStored i n c v (disk.device old) (disk.device new)
      → GoesOnWith disk n i ((record { segment = i; value = v } ∷ []) ∷ []) old new
  stored_goes_on i n c v old new is start moments devices at past =
      Put start moments devices (slice_set devices i new) i c is.value v past
      (λ d ed. rw (same_Some old d (sym at ∙ ed)) at is.held)
      (works i (IsFileOf i n (c + 1) v) devices old new at is.lasts)

  pub cut_off_goes_on : (v : List ℕ) (old new : SegmentState D)
      → (disk.is_honest new.device → disk.is_honest old.device)
      → (disk.is_honest old.device → IsAtRest old.index old.count old.number old.value old.spare_open
      (disk.device old.device)) → (disk.is_honest new.device → LeavesOnly disk old.device new.device
      (IsEither old.index old.count old.number old.value v)) → CutOffGoesOn disk v old new
  cut_off_goes_on v old new honest_then rests any_time hon cut might start moments devices at past =
      PutCutOff start moments devices (slice_set devices old.index cut) old.index old.number old.value v past
      (λ d ed. rw (same_Some old.device d (sym at ∙ ed)) at (at_rest_file old.index old.count old.number
      old.value old.spare_open (disk.device old.device) (rests (honest_then hon))).holds)
      (works old.index (IsEither old.index old.count old.number old.value v) devices old.device cut at
      (λ b left. (any_time hon).each b (might b left)))

  pub no_more_goes_on : CountsNow disk → (i n : ℕ) (old new : D) → disk.is_honest new
      → LeavesNoMore disk old new → GoesOnWith disk n i [] old new
  no_more_goes_on counts_now i n old new hon more start moments devices at past =
      let only = more hon in
      Spared start moments devices (slice_set devices i new) past (record {
        size = sym (length-set devices i new);
        each = λ j d e ed ee b may. ⊎_elim
            (λ (same : j ≡ i).
            let was : d ≡ old = cc in
            let is : new ≡ e = cc (get-set_same devices i new (slice_get_within devices i old at)) in
            rw was (only.each b (counts_now new (disk.clock old) b hon only.later (rw is may))))
            (λ other. let same : d ≡ e = cc (get-set_other devices i j new other) in rw same may) (cases_eq j i);
      })

  pub begins_again : (i n k : ℕ) (v : List ℕ) (blank new : D)
      → IsNewlyMade i n k v (disk.device blank) (disk.device new) → BeginsAgain disk n i k v new
  begins_again i n k v blank new made start moments devices lost at past =
      Remade start (from_there start i k v) moments _ devices (slice_set devices i new) i k v past
      (works i (IsFileOf i n k v) devices lost new at (at_rest_leaves i n k v false (disk.device new) made.1)) refl refl

  pub put_end : (o : FileOrder) (known out out' : Option (List ℕ)) (old new : D) (r : Result Status CommandFault)
      → EndsOrder o (disk.is_honest new) known (disk.device old) (disk.device new) out out' r
      → IfOk r (λ _. PutGoesOn disk o known old new)
  put_end (order.Put file i n) known out out' old new (Ok s) (v, had, stores) =
      λ hon. (v, had, stored_goes_on i n stores.0 v old new (stores.2 hon))
  put_end o known out out' old new (Ok s) ends = tt
  put_end o known out out' old new (Err why) ends = tt

  pub init_end : CountsNow disk → (i n : ℕ) (old new : D) (r : Result Status CommandFault)
      → EndsFounding (disk.is_honest new) i n (disk.device old) (disk.device new) r
      → ((IsBlank (disk.device old).bytes → ⊥) → LeavesNoMore disk old new) → IfOk r (λ _. InitGoesOn disk i n old new)
  init_end counts_now i n old new (Ok s) (done, inl made) spared =
      λ hon. inr (begins_again i n 0 [] old new (made hon).1)
  init_end counts_now i n old new (Ok s) (done, inr kept) spared = λ hon. inl (
      no_more_goes_on counts_now i n old new hon (spared (λ blank. blank.0 (kept.2 hon).was.head.gate)))
  init_end counts_now i n old new (Err why) ends spared = tt

  pub load_end : (i n k : ℕ) (v : List ℕ) (old new : D) (r : Result Status CommandFault)
      → EndsMaking (disk.is_honest new) i n k v (disk.device old) (disk.device new) r
      → OnOk r (disk.is_honest new → BeginsAgain disk n i k v new)
  load_end i n k v old new (Ok s) ends = λ hon. begins_again i n k v old new (ends.1 hon)
  load_end i n k v old new (Err why) ends = tt

  pub migrate_end : (i n : ℕ) (old_honest : Type 0) (old : Device) (blank new : D) (r : Result Status MigrationFault)
      → EndsMigration i n old_honest (disk.is_honest new) old (disk.device blank) (disk.device new) r
      → OnOk r (old_honest → disk.is_honest new → (k : ℕ) × (v : List ℕ) × OldHolds old.bytes k v
      × BeginsAgain disk n i k v new)
  migrate_end i n old_honest old blank new (Ok s) ends = λ old_hon hon.
      let is = ends.2 old_hon hon in
      (ends.0, is.1.0, is.1.1, begins_again i n ends.0 is.1.0 blank new is.1.2)
  migrate_end i n old_honest old blank new (Err why) ends = tt
