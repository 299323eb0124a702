-- One more try.
use Rattle.std.proofs.Common.{◌≡◌, ℕ, zero, suc, ◌-◌, ◌≤◌, List, Option, Result, Err, inl, inr, refl, arith, subst}
use Rattle.snap_frame.specs.declared.{request.Request.Request, reply.Reply.Reply}
use Rattle.snap_client.specs.declared.fault.ClientFault.{ClientFault}
use Rattle.snap_client.specs.Again.{Tries, TriesUpTo, IsFinal, MayPass}

module _ {F R W : Type 0} (connects : F → Option (R × W) → F → Type 0) (remaining : R
    → Option (List ℕ)) (contents : W → Option (List ℕ)) (q : Request) where
  -- the last try
  pub tries_last : (old new : F) (result : Result Reply ClientFault)
      → Tries connects remaining contents q old result new → TriesUpTo 1 connects remaining contents q old result new
  tries_last old new result one = inl (one, inl refl)

  -- a try whose outcome is final
  pub tries_ended : (n : ℕ) (old new : F) (result : Result Reply ClientFault) → 1 ≤ n
      → Tries connects remaining contents q old result new → IsFinal result
      → TriesUpTo n connects remaining contents q old result new
  tries_ended zero old new result some one final = absurd (omega (arith, some))
  tries_ended (suc n) old new result some one final = inl (one, inr final)

  -- a try that failed, and those after it
  pub tries_on : (n : ℕ) (old mid new : F) (fault : ClientFault) (result : Result Reply ClientFault)
      → 1 ≤ n → Tries connects remaining contents q old (Err fault) mid → MayPass fault
      → TriesUpTo (n - 1) connects remaining contents q mid result new
      → TriesUpTo n connects remaining contents q old result new
  tries_on zero old mid new fault result some one may rest = absurd (omega (arith, some))
  tries_on (suc n) old mid new fault result some one may rest =
      let less : suc n - 1 ≡ n = omega arith in
      inr (fault, mid, may, one, subst (λ k. TriesUpTo k connects remaining contents q mid result new) less rest)

  tries_more : (n : ℕ) (old mid new : F) (fault : ClientFault) (result : Result Reply ClientFault)
      → TriesUpTo n connects remaining contents q old (Err fault) mid → MayPass fault
      → Tries connects remaining contents q mid result new
      → TriesUpTo (suc n) connects remaining contents q old result new
  tries_more zero old mid new fault result none may one = absurd none
  tries_more (suc n) old mid new fault result (inl (last, inl no_other)) may one =
      inr (fault, mid, may, last, inl (one, inl no_other))
  tries_more (suc n) old mid new fault result (inl (last, inr final)) may one = absurd (final may)
  tries_more (suc n) old mid new fault result (inr (first, next, passes, made, rest)) may one =
      inr (first, next, passes, made, tries_more n next mid new fault result rest may one)

  -- a try after those that ended with a fault which may pass
  pub tries_next : (n m : ℕ) (old mid new : F) (fault : ClientFault) (result : Result Reply ClientFault) → suc n ≡ m
      → TriesUpTo n connects remaining contents q old (Err fault) mid → MayPass fault
      → Tries connects remaining contents q mid result new → TriesUpTo m connects remaining contents q old result new
  tries_next n m old mid new fault result one_more tried may one =
      subst (λ k. TriesUpTo k connects remaining contents q old result new) one_more
      (tries_more n old mid new fault result tried may one)
