-- The connections and the answer after some tries.
use Rattle.std.proofs.Common.{◌≡◌, ℕ, zero, suc, ◌+◌, ◌^◌, ◌<◌, List, All, Option, Result, Ok, Err, IfOk, inl, inr}
use Rattle.std.proofs.Common.{Some, None, get_or, refl, arith, subst, sym}
use Rattle.std.proofs.lemmas.{List.Elements.All-get_or, Option.get_or_from_slice_get, Option.slice_get_within}
use Rattle.snap_frame.specs.Messages.{IsInLimits, IsStatus}
use Rattle.snap_frame.specs.declared.{entries.SegmentStatus.SegmentStatus, request.Request.Request, reply.Reply.Reply}
use Rattle.snap_client.specs.declared.fault.ClientFault.{ClientFault}
use Rattle.snap_client.specs.Again.{Tries, TriesUpTo, TriesIn}
use Rattle.snap_client_commands.specs.Puts.{TellsNumber}
use denote.Param.Always.{always_mut, mut_next}
use denote.Param.Members.{Mut, Called}

module _ {F R W : Type 0} (connects : F → Option (R × W) → F → Type 0) (remaining : R
    → Option (List ℕ)) (contents : W → Option (List ℕ)) (q : Request) where
  once_says : (old new : F) (r : Reply) → Tries connects remaining contents q old (Ok r) new → IsInLimits r
  once_says old new r (inl failed) = absurd (grind arith)
  once_says old new r (inr (reader, writer, s, is, calls)) =
      let (came, x, asked, has, says, answers) = calls.0 in says.0

  reply_says : (n : ℕ) (old new : F) (r : Reply)
      → TriesUpTo n connects remaining contents q old (Ok r) new → IsInLimits r
  reply_says zero old new r none = absurd none
  reply_says (suc n) old new r (inl (one, last)) = once_says old new r one
  reply_says (suc n) old new r (inr (fault, mid, may, one, rest)) = reply_says n mid new r rest

  up_to_say : (n : ℕ) (old new : F) (result : Result Reply ClientFault)
      → TriesUpTo n connects remaining contents q old result new → IfOk result IsInLimits
  up_to_say n old new (Ok r) tried = reply_says n old new r tried
  up_to_say n old new (Err fault) tried = tt

  -- a reply is within its limits
  pub tries_say : (tries : Option ℕ) (old new : F) (result : Result Reply ClientFault)
      → TriesIn tries connects remaining contents q old result new → IfOk result IsInLimits
  tries_say (Some n) old new result tried = up_to_say n old new result tried
  tries_say None old new result (n, mid, tried, ended) = up_to_say n old mid result tried

module _ {F R W : Type 0} (calls : Mut F (Unit {0}) (Option (R × W))) (remaining : R → Option (List ℕ))
    (contents : W → Option (List ℕ)) (q : Request) where
  once_leaves : (old new : F) (result : Result Reply ClientFault) → always_mut calls old
      → Tries (λ f x f'. Called calls f tt x f') remaining contents q old result new → always_mut calls new
  once_leaves old new result may (inl (is, failed)) = mut_next calls old tt _ new new is refl may
  once_leaves old new result may (inr (reader, writer, s, is, did)) = mut_next calls old tt _ new new is refl may

  up_to_leave : (n : ℕ) (old new : F) (result : Result Reply ClientFault) → always_mut calls old
      → TriesUpTo n (λ f x f'. Called calls f tt x f') remaining contents q old result new → always_mut calls new
  up_to_leave zero old new result may none = absurd none
  up_to_leave (suc n) old new result may (inl (one, last)) = once_leaves old new result may one
  up_to_leave (suc n) old new result may (inr (fault, mid, passes, one, rest)) =
      up_to_leave n mid new result (once_leaves old mid _ may one) rest

  -- a `connect` that can always be called can be called again after the tries
  pub tries_leave : (tries : Option ℕ) (old new : F) (result : Result Reply ClientFault) → always_mut calls old
      → TriesIn tries (λ f x f'. Called calls f tt x f') remaining contents q old result new → always_mut calls new
  tries_leave (Some n) old new result may tried = up_to_leave n old new result may tried
  tries_leave None old new result may (n, mid, tried, inl (final, same)) =
      subst (always_mut calls) (sym same) (up_to_leave n old mid result may tried)
  tries_leave None old new result may (n, mid, tried, inr (inl one)) =
      once_leaves mid new _ (up_to_leave n old mid result may tried) one
  tries_leave None old new result may (n, mid, tried, inr (inr (many, same))) =
      subst (always_mut calls) (sym same) (up_to_leave n old mid result may tried)

-- a segment's number in a valid status has a next one
pub number_next : (statuses : List SegmentStatus) (i k : ℕ) → All IsStatus statuses
    → TellsNumber statuses i k → k + 1 < 2 ^ 64
number_next statuses i k are (s, at, is) =
    let here : get_or statuses i s ≡ s = get_or_from_slice_get statuses i s s at in
    let found : IsStatus (get_or statuses i s) =
    All-get_or IsStatus statuses i s (slice_get_within statuses i s at) are in
    let within : IsStatus s = rw here at found in
    let same : s.number ≡ k = is in
    omega (arith, within, same)
