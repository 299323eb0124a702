-- One history across a crash and the start after it.
use Rattle.std.proofs.Common.{◌≡◌, ℕ, ◌<◌, List, ◌++◌, map, refl, ap, sym, ◌∙◌, arith, append_assoc}
use Rattle.std.proofs.lemmas.{List.length-map, Option.same_Some, Option.slice_get_within}
use Rattle.snap_disk.specs.Device.{MayLeave}
use Rattle.snap_history.specs.History.{Update, Start, last_value, number_after, value_after}
use Rattle.snap_history.{specs.Pairs.Pairs, proofs.Moments.updates-append, proofs.Moments.last-append}
use Rattle.snap_restart.{specs.LifeCrash.IsRecovered, specs.LifeCrash.KeepMemory, proofs.Placed.same_file}
use Rattle.snap_restart.proofs.Removals.{get_map}
use Rattle.snap_disk.specs.declared.disk.Disk as Disk

-- `next` starts with the memory of n segments after the base
abbrev pub StartsAfter : ℕ → Start → List Update → Start → Type 0
StartsAfter n start base next = (i : ℕ) → i < n
    → ((next i).0 ≡ number_after start base i) × ((next i).1 ≡ value_after start base i)

module _ (n : ℕ) (start : Start) (base : List Update) (next : Start) (after : StartsAfter n start base next) where
  pub number_on : (h : List Update) (i : ℕ) → i < n → number_after next h i ≡ number_after start (base ++ h) i
  number_on h i low = let is = (after i low).0 in let sum = updates-append i base h in omega (arith, is, sum)

  pub value_on : (h : List Update) (i : ℕ) → i < n → value_after next h i ≡ value_after start (base ++ h) i
  value_on h i low = ap (λ (v : List ℕ). last_value v i h) (after i low).1 ∙ sym (last-append (start i).1 i base h)

  -- what is recovered from there is recovered from the first start, after the base
  pub recovered_on : (h : List Update) (begun : ℕ → List ℕ → Type 0) (files : List (List ℕ))
      → IsRecovered n next h begun files → IsRecovered n start (base ++ h) begun files
  recovered_on h begun files r = record {
    begun_too = r.begun_too;
    were_begun = r.were_begun;
    once = r.once;
    size = r.size;
    holds = λ i b e.
        let low : i < n = omega (arith, r.size, slice_get_within files i b e) in
        rw append_assoc (same_file refl refl (number_on (h ++ r.begun_too) i low) (value_on (h ++ r.begun_too) i low)
        (r.holds i b e));
  }

-- ---- what a device holds now is something that a crash may leave

module _ {D : Type 0} (disk : Disk.Ghosts D) where
  pub bytes_left : (devices : List D) → Pairs (λ _ d b. MayLeave (disk.device d) b) devices
      (map (λ (x : D). (disk.device x).bytes) devices)
  bytes_left devices = grind (arith, length-map, get_map, same_Some)

  pub kept_now : (n : ℕ) (start : Start) (h : List Update) (begun : ℕ → List ℕ → Type 0)
      (devices : List D) → KeepMemory disk n start h begun devices
      → IsRecovered n start h begun (map (λ (x : D). (disk.device x).bytes) devices)
  kept_now n start h begun devices kept = kept (map (λ (x : D). (disk.device x).bytes) devices) (bytes_left devices)
