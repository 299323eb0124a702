-- An update under a rule that calls nothing.
use Rattle.std.proofs.Common.{◌≡◌, ◌≢◌, ℕ, List, [], Option, None, Result, inl, refl, subst}
use Rattle.snap_disk.specs.{Time.LeavesOnly, Laws.started, declared.refusal.Refusal.Refusal}
use Rattle.snap_slot.{specs.States.IsEither, proofs.Rest.at_rest_leaves}
use Rattle.snap_segment.specs.Segment.{CountsRefusal, IsKept}
use Rattle.snap_writer.specs.Writer.{WriterState, number_of, value_of}
use Rattle.snap_writer.specs.{Judge.IsJudged, Judge.IsAnswer, declared.judgement.Judgement.Judgement}
use Rattle.snap_writer.specs.{declared.judgement.Judgement.TheVariants.Go, Updated.IsUpdated}
use Rattle.snap_writer.proofs.{Crashes.OnlyNow, Judgements.one_rule}
use Rattle.snap_disk.specs.declared.disk.Disk as Disk

module _ {D : Type 0} (disk : Disk.Ghosts D) (only_now : OnlyNow disk) (w : WriterState D)
    (kept : disk.is_honest w.segment.device → IsKept w.segment.index w.segment.count (number_of w)
    (value_of w) w.segment.begun w.segment.spare_open (disk.device w.segment.device)) where
  -- a crash leaves what an unfenced writer has shown last
  rests : (v : List ℕ) → disk.is_honest w.segment.device → w.segment.begun ≡ None
      → LeavesOnly disk w.segment.device w.segment.device
      (IsEither w.segment.index w.segment.count (number_of w) (value_of w) v)
  rests v hon unfenced = started disk w.segment.device _ (λ b left.
      inl (at_rest_leaves _ _ _ _ w.segment.spare_open (disk.device w.segment.device)
      (subst (λ (x : Option (List ℕ)). IsKept w.segment.index w.segment.count (number_of w)
      (value_of w) x w.segment.spare_open (disk.device w.segment.device)) unfenced (kept hon))
      b (only_now w.segment.device b hon left)))

  module _ (k : ℕ) (v : List ℕ) (rule : Judgement) (judged : IsJudged w k v rule)
      (other : rule ≢ Go) where
    never : (A : Type 0) → IsJudged w k v Go → A
    never A go = absurd (other (one_rule w k v rule Go judged go))

    pub untouched : (told : Result ℕ Refusal) → IsAnswer k rule told
        → CountsRefusal told (disk.failure_count w.segment.device) (disk.failure_count w.segment.device)
        → IsUpdated disk w w k v told
    untouched told answer count = record {
      count = count;
      honest_then = λ is. is;
      same_seat = record { table = refl; plan = refl; low = refl; high = refl };
      judged = λ r is. subst (λ (x : Judgement). IsAnswer k x told)
          (one_rule w k v rule r judged is) answer;
      unchanged = λ r is not. refl;
      advances = never _;
      fails = never _;
      calls = never _;
      left = never _;
      below = never _;
      lived = ([], refl);
      stored_first = never _;
      any_time = rests v;
      last = λ honest. never _;
      either = λ honest. never _;
    }
