-- Values that a writer has stored stay, throughout its life.
use Rattle.std.proofs.Common.{◌≡◌, ⊎_elim, ℕ, suc, ◌+◌, ◌≤◌, inl, inr, List, [], ◌∷◌, length, refl, ◌∙◌, arith}
use Rattle.snap_disk.specs.{Device.MayLeave, Time.LeavesOnly, Laws.started, Laws.then, Laws.weaker}
use Rattle.snap_slot.specs.{Layout.IsFileOf, States.IsEither}
use Rattle.snap_register.specs.declared.plan.Plan.{Plan}
use Rattle.snap_writer.specs.Life.{Stores, Does, Lived, IsWriterOf}
use Rattle.snap_writer.{specs.Writer.WriterState, proofs.Crashes.OnlyNow}
use Rattle.snap_restart.specs.LifeDurability.{Gave, Once, Keeps, Stays}
use Rattle.snap_restart.specs.{Crash.AreOpened, Durability.AllStays}
use Rattle.snap_restart.proofs.{Placed.same_file, Lives.does_is, Lives.seat_step}
use Rattle.snap_disk.specs.declared.disk.Disk as Disk

-- the writer of a segment stays its writer throughout its life
pub lived_is : {D : Type 0} (disk : Disk.Ghosts D) (plan : Plan) (n i : ℕ) (a z : WriterState D)
    (life : List (WriterState D)) → IsWriterOf disk plan n i a → Lived disk a life z → IsWriterOf disk plan n i z
lived_is disk plan n i a z [] is lived = rw lived is
lived_is disk plan n i a z (b ∷ life) is lived =
    lived_is disk plan n i b z life (does_is disk plan n i a b is lived.0) lived.1

module _ {D : Type 0} (disk : Disk.Ghosts D) where
  -- a device that is honest now was so before
  honest_before : (a b : WriterState D) → Does disk a b
      → disk.is_honest b.segment.device → disk.is_honest a.segment.device
  honest_before a b (inl seat) hon = rw (seat_step disk a b seat) at hon
  honest_before a b (inr stores) hon = stores.1.honest_then hon

  honest_all : (a z : WriterState D) (life : List (WriterState D)) → Lived disk a life z
      → disk.is_honest z.segment.device → disk.is_honest a.segment.device
  honest_all a z [] lived hon = rw lived at hon
  honest_all a z (b ∷ life) lived hon = honest_before a b lived.0 (honest_all b z life lived.1 hon)

module _ {D : Type 0} (disk : Disk.Ghosts D) (plan : Plan) (n i : ℕ) where
  -- the file of what is stored
  stored : (a : WriterState D) (life : List (WriterState D)) → IsWriterOf disk plan n i a → (x : List ℕ)
      → IsFileOf a.segment.index a.segment.count a.segment.number a.segment.value x → Keeps n i a life x
  stored a life is x file = record {
    number = a.segment.number;
    value = a.segment.value;
    file = same_file is.index_is is.count_is refl refl file;
    no_less = omega arith;
    same_value = λ e. refl;
    given = (0, a, refl, inl (refl, refl));
  }

  -- the file of the next number, which was given during the life
  begun : (a : WriterState D) (life : List (WriterState D)) → IsWriterOf disk plan n i a → (v : List ℕ)
      → Once (a ∷ life) (Gave (a.segment.number + 1) v) → (x : List ℕ)
      → IsFileOf a.segment.index a.segment.count (a.segment.number + 1) v x → Keeps n i a life x
  begun a life is v gave x file = grind (arith, same_file)

  -- a crash between two stores
  between : (a : WriterState D) (life : List (WriterState D)) → IsWriterOf disk plan n i a
      → disk.is_honest a.segment.device → (x : List ℕ) → MayLeave (disk.device a.segment.device) x → Keeps n i a life x
  between a life is hon x left = ⊎_elim (stored a life is x)
      (λ failed. begun a life is failed.0 (0, a, refl, inr (refl, failed.1)) x failed.2) (is.rests hon x left)

  gave_next : (a b : WriterState D) (v : List ℕ) → Stores disk v a b → Gave (a.segment.number + 1) v b
  gave_next a b v s = ⊎_elim (λ done. inl (rw done (refl, refl))) (λ failed. inr (rw failed (refl, refl))) s.ends

  -- a step on the seat leaves the device as it is
  same_left : (a b : WriterState D) (life : List (WriterState D)) → OnlyNow disk → IsWriterOf disk plan n i a
      → disk.is_honest a.segment.device → b.segment ≡ a.segment
      → LeavesOnly disk a.segment.device b.segment.device (Keeps n i a life)
  same_left a b life only_now is was same = rw same (started disk a.segment.device (Keeps n i a life)
      (λ x left. between a life is was x (only_now a.segment.device x was left)))

  -- what a crash leaves of the first step
  step_left : (a b : WriterState D) (life : List (WriterState D)) → OnlyNow disk → IsWriterOf disk plan n i a
      → disk.is_honest a.segment.device → disk.is_honest b.segment.device → Does disk a b
      → LeavesOnly disk a.segment.device b.segment.device (Keeps n i a (b ∷ life))
  step_left a b life only_now is was hon (inl seat) =
      same_left a b (b ∷ life) only_now is was (seat_step disk a b seat)
  step_left a b life only_now is was hon (inr (v, s)) = weaker disk a.segment.device b.segment.device
      (IsEither a.segment.index a.segment.count a.segment.number a.segment.value v)
      (Keeps n i a (b ∷ life)) (s.went.any_time hon)
      (λ x. ⊎_elim (stored a (b ∷ life) is x) (begun a (b ∷ life) is v (1, b, refl, gave_next a b v s) x))

  -- b has stored what a has, or more
  abbrev Follows : WriterState D → WriterState D → Type 0
  Follows a b = (a.segment.number ≤ b.segment.number)
      × (b.segment.number ≡ a.segment.number → b.segment.value ≡ a.segment.value)

  follows : (a b : WriterState D) → Does disk a b → Follows a b
  follows a b (inl seat) = rw (seat_step disk a b seat) (omega arith, λ e. refl)
  follows a b (inr stores) = ⊎_elim (λ done. rw done (omega arith, λ e. absurd (omega arith)))
      (λ failed. rw failed (omega arith, λ e. refl)) stores.1.ends

  keeps_on : (a b : WriterState D) (life : List (WriterState D)) (x : List ℕ) → Follows a b
      → Keeps n i b life x → Keeps n i a (b ∷ life) x
  keeps_on a b life x f k = record {
    number = k.number;
    value = k.value;
    file = k.file;
    no_less = omega arith;
    same_value = λ e. k.same_value (omega arith) ∙ f.1 (omega arith);
    given = (suc k.given.0, k.given.1, k.given.2, k.given.3);
  }

  pub stays : OnlyNow disk → (a z : WriterState D) (life : List (WriterState D)) → IsWriterOf disk plan n i a
      → Lived disk a life z → disk.is_honest z.segment.device → Stays disk n i a life z
  stays only_now a z [] is lived hon = grind (arith, same_left, between)
  stays only_now a z (b ∷ life) is (does, lived) hon =
      let mid = honest_all disk b z life lived hon in
      let first = step_left a b life only_now is (honest_before disk a b does mid) mid does in
      let rest = stays only_now b z life (does_is disk plan n i a b is does) lived hon in
      let on = λ (x : List ℕ). keeps_on a b life x (follows a b does) in
      record {
        any_time = then disk a.segment.device b.segment.device z.segment.device (Keeps n i a (b ∷ life))
            (Keeps n i b life) (Keeps n i a (b ∷ life)) first rest.any_time (λ x kept. kept) on;
        now = λ x left. on x (rest.now x left);
      }

-- what the writers of an opening have stored stays
pub stay_stored : {D : Type 0} (disk : Disk.Ghosts D) → OnlyNow disk → (devices : List D)
    (writers : List (WriterState D)) → AreOpened disk devices writers → AllStays disk writers
stay_stored disk only_now devices writers opened i w a z before life at first =
    stays disk opened.plan (length writers) i only_now a z life
    (lived_is disk opened.plan (length writers) i w a before (opened.writers_are i w at) first)
