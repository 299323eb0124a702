-- How many bytes are held.
use Rattle.std.proofs.Common.{◌≡◌, ℕ, ◌+◌, ◌<◌, ◌≤◌, List, length, Option, Some, None, Bool, true, false}
use Rattle.std.proofs.Common.{is_some, inl, inr, refl, sym, ◌∙◌, ap, arith, length-append}
use Rattle.std.proofs.lemmas.List.{get_or-append-add}
use Rattle.snap_frame.specs.{Messages.frame, Stream.HasFrame, Stream.IsBytes}
use Rattle.snap_frame.specs.declared.frame_buffer.FrameFault.{FrameFault}
use Rattle.snap_session.specs.Talk.{Talk, HasTaken, longest_frame, HoldsFrameAnd}
use Rattle.snap_session.specs.Turns.{Sends}

-- the bytes after a frame
pub bytes_behind : (xs x rest : List ℕ) → IsBytes xs → HasFrame xs x rest → IsBytes rest
bytes_behind xs x rest bytes has i =
    rw (← get_or-append-add (frame x) rest i 0) (rw has.split at (bytes (length (frame x) + i)))

-- no more bytes are held after bytes were written and frames answered
pub holds_sent : (more : ℕ) (old mid : Talk) (w0 w1 : _) → Sends old mid w0 w1
    → HoldsFrameAnd more old → HoldsFrameAnd more mid
holds_sent more old mid w0 w1 sent holds going = rw sent.held (holds (sym sent.over ∙ going))

pub holds_answered : (more : ℕ) (old new : Talk) → old.over ≡ None
    → (new.over ≡ None → length new.held ≤ length old.held) → HoldsFrameAnd more old → HoldsFrameAnd more new
holds_answered more old new going fewer holds still = omega (arith, fewer still, holds going)

-- a read is taken in while less than a frame is held
pub holds_taken : (more : ℕ) (old : Talk) (piece : List ℕ) (new : Talk) → length old.held < longest_frame
    → length piece ≤ more → HasTaken old piece new → HoldsFrameAnd more new
holds_taken more old piece new short few (inl is) going =
    omega (arith, short, few, ap (λ (z : Talk). length z.held) is, length-append old.held piece)
holds_taken more old piece new short few (inr none) going = grind arith

still_is : (o : Option FrameFault) → is_some o ≡ false → o ≡ None
still_is None is = refl
still_is (Some f) is = let wrong : true ≡ false = is in absurd cc

-- the session isn't over
pub still_going : (o : Option FrameFault) (is : Bool) → is ≡ is_some o → is ≡ false → o ≡ None
still_going o is told so = still_is o (sym told ∙ so)
