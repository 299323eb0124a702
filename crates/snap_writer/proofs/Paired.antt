-- A writer's file and what its seat has seen match, after a scan and after an update.
use Rattle.std.proofs.Common.{◌≡◌, ℕ, ◌+◌, List, ap, sym, ◌∙◌}
use Rattle.snap_segment.specs.Segment.{SegmentState}
use Rattle.snap_register.specs.Seat.{Known, Grows}
use Rattle.snap_writer.proofs.Shown.{same_grown, number_grown, value_grown, number_shown, value_shown}
use Rattle.snap_writer.specs.{Writer.IsPaired, Writer.phase_of, Update.IsSameSeat, Update.EndsWith}
use Rattle.snap_register.specs.declared.plan.UpdatePhase.{UpdatePhase}

module _ {D : Type 0} (s r : SegmentState D) (a b : Known) where
  alone_still : IsSameSeat a b → a.high ≡ a.low + 1 → b.high ≡ b.low + 1
  alone_still same alone = same.high ∙ alone ∙ ap (λ (k : ℕ). k + 1) (sym same.low)

  pub paired_grown : (f : UpdatePhase) → IsPaired (record { segment = s; seat = a }) → Grows a b → r.number ≡ s.number
      → r.value ≡ s.value → f ≡ phase_of r.begun → IsPaired (record { segment = r; seat = record b { phase = f } })
  paired_grown f is g number value phase = record {
    number_is = number ∙ is.number_is ∙ sym (number_grown a b g is.alone);
    value_is = value ∙ is.value_is ∙ sym (value_grown a b g is.alone);
    alone = alone_still (same_grown a b g) is.alone;
    phase_is = phase;
  }

  pub paired_shown : (v : List ℕ) → IsPaired (record { segment = s; seat = a }) → IsSameSeat a b
      → EndsWith a b v → r.number ≡ s.number + 1 → r.value ≡ v → b.phase ≡ phase_of r.begun
      → IsPaired (record { segment = r; seat = b })
  paired_shown v is same e number value phase = record {
    number_is = number ∙ ap (λ (k : ℕ). k + 1) is.number_is ∙ sym (number_shown a b v same e);
    value_is = value ∙ sym (value_shown a b v same e);
    alone = alone_still same is.alone;
    phase_is = phase;
  }
