-- The result of decoding the first frame, and the bytes that it leaves.
use Rattle.std.proofs.Common.{◌≡◌, ℕ, List, None, Err, Ok, Some, inl, inr, sym, ◌∙◌, ap}
use Rattle.snap_disk.specs.declared.refusal.Refusal.{Refusal}
use Rattle.snap_frame.specs.Stream.{Held, IsNextRequest, IsBytes, HasLongLength, Fails, refusal_of}
use Rattle.snap_frame.specs.declared.frame_buffer.FrameFault.{FrameFault, TheVariants.NoMemory, TheVariants.TooLarge}
use Rattle.snap_frame.specs.declared.request.Request.{Request}
use Rattle.snap_session.proofs.Held.{bytes_behind}
use Rattle.snap_disk.specs.declared.refusal.Refusal.TheVariants as refusals

malformed_apart : (f : FrameFault) → refusals.Malformed ≡ refusal_of f → ⊥
malformed_apart NoMemory wrong = absurd cc
malformed_apart TooLarge wrong = absurd cc

-- the session continues after a request, and after a malformed frame
pub asked_leaves : (bytes : List ℕ) (q : Request) (new : Held) → IsNextRequest bytes (Ok (Some q)) new → IsBytes bytes
    → (new.failure ≡ None) × IsBytes new.bytes
asked_leaves bytes q new next are = (next.3, bytes_behind bytes next.0 new.bytes are next.1)

pub malformed_leaves : (bytes : List ℕ) (why : Refusal) (new : Held) → why ≡ refusals.Malformed
    → IsNextRequest bytes (Err why) new → IsBytes bytes → (new.failure ≡ None) × IsBytes new.bytes
malformed_leaves bytes why new is (inl next) are = (next.4, bytes_behind bytes next.1 new.bytes are next.2)
malformed_leaves bytes why new is (inr fails) are = absurd (malformed_apart fails.0 (sym is ∙ fails.1))

too_large_by : (bytes : List ℕ) (f : FrameFault) (new : Held) → refusals.TooLarge ≡ refusal_of f
    → Fails bytes f new → HasLongLength bytes × (new.bytes ≡ bytes)
too_large_by bytes NoMemory new is fails = absurd cc
too_large_by bytes TooLarge new is fails = (fails.0, ap (λ (z : Held). z.bytes) fails.1)

-- a length above the limit isn't removed from the bytes
pub too_large_leaves : (bytes : List ℕ) (why : Refusal) (new : Held) → why ≡ refusals.TooLarge
    → IsNextRequest bytes (Err why) new → HasLongLength bytes × (new.bytes ≡ bytes)
too_large_leaves bytes why new is (inl next) =
    let wrong : refusals.TooLarge ≡ refusals.Malformed = sym is ∙ next.0 in absurd cc
too_large_leaves bytes why new is (inr fails) = too_large_by bytes fails.0 new (sym is ∙ fails.1) fails.2
