-- One more segment of `watch`.
use Rattle.std.proofs.Common.{All, Bor, zero, suc, ◌≡◌, ◌<◌, ◌+◌, ◌++◌, ◌∷◌, [], List, Option, Some, ap, arith}
use Rattle.std.proofs.Common.{below_more, get_or, length, map, option_map, slice_get, slice_index, subst, sym, ◌∙◌, ℕ}
use Rattle.std.proofs.lemmas.{List.get_or_append_left, Option.slice_get-get_or, Option.slice_get-map}
use Rattle.std.proofs.Math.Seq.{get_or-append_seam}
use Rattle.clap.specs.Words.{Text}
use Rattle.snap_args.specs.Numbers.{IsNumberOf}

-- if the segments so far are their arguments' numbers, they are with one more at the end
pub more_numbers : (of : ℕ → Option Text) (segments : List ℕ) (s at : ℕ) → length segments ≡ at → IsNumberOf (of at) s
    → ((k : ℕ) → k < at → IsNumberOf (of k) (slice_index segments k)) → (k : ℕ) → k < at + 1
    → IsNumberOf (of k) (slice_index (segments ++ s ∷ []) k)
more_numbers of segments s at long is before = below_more _ _ (λ k below. subst (IsNumberOf (of k))
    (sym (get_or_append_left segments (s ∷ []) 0 k (omega (arith, long, below)))) (before k below))
    (subst (λ (k : ℕ). IsNumberOf (of k) (slice_index (segments ++ s ∷ []) k)) long
    (subst (IsNumberOf (of (length segments))) (sym (get_or-append_seam segments s [] 0))
    (subst (λ (k : ℕ). IsNumberOf (of k) s) (sym long) is)))

-- a property of a number holds of each element of the list of it alone
pub all_one : (P : ℕ → Type 0) (s : ℕ) → P s → All P (s ∷ [])
all_one P s is zero d below = is
all_one P s is (suc k) d below = absurd (omega arith)

-- the argument at this place
pub word_at : (words : List (Bor (List ℕ))) (at : ℕ) (d : Bor (List ℕ)) → at < length words
    → slice_get (map (λ (w : Bor (List ℕ)). w.now) words) at ≡ Some (get_or words at d).now
word_at words at d within = slice_get-map (λ (w : Bor (List ℕ)). w.now) words at
    ∙ ap (option_map (λ (w : Bor (List ℕ)). w.now)) (slice_get-get_or words at d within)
