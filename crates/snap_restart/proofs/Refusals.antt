-- The devices after an opening that was refused.
use Rattle.std.proofs.Common.{◌≡◌, ℕ, ◌<◌, List, ◌∷◌, ◌++◌, length, map, take, drop, refl, arith}
use Rattle.std.proofs.lemmas.List.{length-take-le, take-append-drop}
use Rattle.snap_disk.specs.{declared.refusal.Refusal.Refusal, declared.refusal.Refusal.TheVariants.NoMemory}
use Rattle.snap_disk.specs.{Device.MayLeave, Time.LeavesOnly, Laws.started}
use Rattle.snap_slot.specs.Findings.{IsNoOpening}
use Rattle.snap_segment.specs.{Segment.SegmentState, Open.CountsFailed, Refusals.IsOpenRefusal}
use Rattle.snap_history.specs.Pairs.{Pairs}
use Rattle.snap_writer.proofs.Crashes.{CountsNow, OnlyNow}
use Rattle.snap_restart.proofs.Pairs.{Pairs-mapped, Pairs-spliced}
use Rattle.snap_restart.specs.Opened.{IsBack, IsOpened, IsReturned, IsStopped}
use Rattle.snap_disk.specs.declared.disk.Disk as Disk

module _ {D : Type 0} (disk : Disk.Ghosts D) where
  -- a device that wasn't touched
  pub back_same : OnlyNow disk → (d : D) → IsBack disk d d
  back_same only_now d = grind (arith, started)

  -- what a crash may leave now is among what a crash since the opening began might have left
  pub back_later : CountsNow disk → (d e : D) → (disk.is_honest e → disk.is_honest d)
      → (disk.is_honest e → LeavesOnly disk d e (MayLeave (disk.device d))) → IsBack disk d e
  back_later counts_now d e then any = grind arith

  module _ (n k : ℕ) (why : Refusal) where
    pub returned_opened : (i : ℕ) (d : D) (s : SegmentState D) → i < k → IsOpened disk n i d s
        → IsReturned disk n k why i d s.device
    returned_opened i d s low o = grind arith

    pub returned_same : OnlyNow disk → (i : ℕ) (d : D) → k < i → IsReturned disk n k why i d d
    returned_same only_now i d low = grind (arith, back_same)

    pub returned_here : (d e : D) → IsBack disk d e → CountsFailed why (disk.failure_count d) (disk.failure_count e)
        → (disk.is_honest e → IsNoOpening k n (disk.device d).bytes why) → IsReturned disk n k why k d e
    returned_here d e back counts none = grind arith

  -- the earlier segments were opened, this one was refused, and the others weren't touched
  pub stopped_at : OnlyNow disk → (why : Refusal) (olds news : List D) (ss : List (SegmentState D)) (d e : D)
      (rest : List D) (k : ℕ) → k ≡ length ss → drop k olds ≡ d ∷ rest → k < length olds
      → Pairs (IsOpened disk (length olds)) (take k olds) ss → IsOpenRefusal why
      → IsReturned disk (length olds) k why k d e → news ≡ map (λ s. s.device) ss ++ e ∷ rest
      → IsStopped disk olds news why k
  stopped_at only_now why olds news ss d e rest k count front low p kind here is =
      let R : ℕ → D → D → Type 0 = IsReturned disk (length olds) k why in
      let long : length (take k olds) ≡ k = length-take-le k olds (omega arith) in
      let first = Pairs-mapped (IsOpened disk (length olds)) R (λ s. s.device) (take k olds) ss
      (λ i a s l o. returned_opened (length olds) k why i a s (omega arith) o) p in
      let all = Pairs-spliced R (take k olds) (map (λ s. s.device) ss) d e rest first (rw long here)
      (λ i a l. returned_same (length olds) k why only_now i a (omega arith)) in
      record {
        kind = kind;
        within = omega arith;
        refused = λ _. low;
        returned = rw is (rw (← front, take-append-drop k olds) at all);
      }

  -- memory ran out after all were opened
  pub stopped_last : (olds news : List D) (ss : List (SegmentState D)) → Pairs (IsOpened disk (length olds)) olds ss
      → news ≡ map (λ s. s.device) ss → IsStopped disk olds news NoMemory (length olds)
  stopped_last olds news ss p is = record {
    kind = tt;
    within = omega arith;
    refused = λ ne. absurd (ne refl);
    returned = rw is (Pairs-mapped (IsOpened disk (length olds)) (IsReturned disk (length olds) (length olds)
        NoMemory) (λ s. s.device) olds ss (returned_opened (length olds) (length olds) NoMemory) p);
  }
