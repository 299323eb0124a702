-- Entries one after the other, and what may follow those that were read.
use Rattle.std.proofs.Common.{◌≡◌, ℕ, ◌+◌, ◌<◌, ◌≤◌, Bool, true, false, List, [], ◌∷◌, ◌++◌, length, drop, flat_map}
use Rattle.std.proofs.Common.{All, refl, sym, ◌∙◌, ap, ap₂, arith, append_assoc, append-nil}
use Rattle.std.proofs.lemmas.List.Elements.{All-nil, All-cons, All-tail, All-append}
use Rattle.std.{specs.Int.w32, specs.Int.to_be_bytes, proofs.lemmas.List.Concat.flat_map-append}
use Rattle.snap_scan.specs.declared.segment_value.SegmentValue.{SegmentValue}
use Rattle.snap_frame.specs.Messages.{value_bytes, named_bytes, status_bytes, fence_byte, IsValue, IsNamedValue}
use Rattle.snap_frame.specs.Messages.{IsStatus, Separate}
use Rattle.snap_frame.specs.declared.{entries.SegmentStatus.SegmentStatus, named.NamedValue.NamedValue}
use Rattle.snap_frame.proofs.{BigEndian.same_number, BigEndian.same_length, Exact.append_split}

module _ {E : Type 0} (bytes : E → List ℕ) (MayStand : E → Type 0) where
  -- the entries that were read are the first of any that the bytes may be
  pub record Behind (es fs : List E) (rest : List ℕ) : Type 0 where
    pub more : List E
    pub each : All MayStand more
    pub count : length fs ≡ length es + length more
    pub is : rest ≡ flat_map bytes more

  pub behind : (es fs : List E) (rest : List ℕ) → Separate bytes MayStand → All MayStand es → All MayStand fs
      → length es ≤ length fs → flat_map bytes es ++ rest ≡ flat_map bytes fs → Behind es fs rest
  behind [] fs rest apart read any few e = record { more = fs; each = any; count = omega arith; is = e }
  behind (d ∷ es) [] rest apart read any few e = absurd (omega (arith, few))
  behind (d ∷ es) (f ∷ fs) rest apart read any few e =
      let both = apart.each d f (flat_map bytes es ++ rest) (flat_map bytes fs) (read 0 d (omega arith))
      (any 0 f (omega arith)) (sym (append_assoc (bytes d) (flat_map bytes es) rest) ∙ e) in
      let rec = behind es fs rest apart (All-tail MayStand d es read)
      (All-tail MayStand f fs any) (omega (arith, few)) both.1 in
      record { more = rec.more; each = rec.each; count = omega (arith, rec.count); is = rec.is }

  -- one more entry was read
  pub read_on : (es : List E) (e : E) (all rest tail : List ℕ) → All MayStand es → MayStand e
      → all ≡ flat_map bytes es ++ rest → rest ≡ bytes e ++ tail → All MayStand (es ++ e ∷ [])
      × (all ≡ flat_map bytes (es ++ e ∷ []) ++ tail)
  read_on es e all rest tail read may is one = (
    All-append MayStand es (e ∷ []) read (All-cons MayStand e [] may (All-nil MayStand)),
    is ∙ ap (λ xs. flat_map bytes es ++ xs) (one ∙ ap (λ xs. xs ++ tail) (sym (append-nil (bytes e))))
        ∙ sym (append_assoc (flat_map bytes es) (bytes e ++ []) tail) ∙ ap (λ xs. xs ++ tail)
        (sym (flat_map-append bytes es (e ∷ []))),
  )

  -- if no entry follows those that were read, the bytes aren't more entries
  pub no_more : (es fs : List E) (rest : List ℕ) → Separate bytes MayStand → All MayStand es → All MayStand fs
      → length es < length fs → ((e : E) → (tail : List ℕ) → MayStand e → rest ≡ bytes e ++ tail → ⊥)
      → flat_map bytes es ++ rest ≡ flat_map bytes fs → ⊥
  no_more es fs rest apart read any few none e =
      let left = behind es fs rest apart read any (omega (arith, few)) e in
      elim left.more as (λ (more : List E). All MayStand more → length fs ≡ length es + length more
      → rest ≡ flat_map bytes more → ⊥) [
        | [] ↦ λ each count is. absurd (omega (arith, count, few))
        | d ∷ more ↦ λ each count is. none d (flat_map bytes more) (each 0 d (omega arith)) is
      ] left.each left.count left.is

  -- nothing follows the last of them
  pub no_rest : (es fs : List E) (rest : List ℕ) → Separate bytes MayStand → All MayStand es → All MayStand fs
      → length es ≡ length fs → flat_map bytes es ++ rest ≡ flat_map bytes fs → rest ≡ []
  no_rest es fs rest apart read any same e =
      let left = behind es fs rest apart read any (omega (arith, same)) e in
      elim left.more as (λ (more : List E). length fs ≡ length es + length more
      → rest ≡ flat_map bytes more → rest ≡ []) [
        | [] ↦ λ count is. is
        | d ∷ more ↦ λ count is. absurd (omega (arith, count, same))
      ] left.count left.is

  -- two lists of as many entries with the same bytes are equal
  pub same_entries : (es fs : List E) → Separate bytes MayStand → All MayStand es
      → All MayStand fs → length es ≡ length fs → flat_map bytes es ≡ flat_map bytes fs → es ≡ fs
  same_entries [] [] apart read any same e = refl
  same_entries [] (f ∷ fs) apart read any same e = absurd (omega (arith, same))
  same_entries (d ∷ es) [] apart read any same e = absurd (omega (arith, same))
  same_entries (d ∷ es) (f ∷ fs) apart read any same e =
      let both = apart.each d f (flat_map bytes es) (flat_map bytes fs) (read 0 d (omega arith))
      (any 0 f (omega arith)) e in
      ap₂ (λ g gs. g ∷ gs) both.0 (same_entries es fs apart (All-tail MayStand d es read)
      (All-tail MayStand f fs any) (omega (arith, same)) both.1)

abbrev value_of : ℕ → List ℕ → SegmentValue
value_of n v = record { number = n; value = v }

abbrev status_of : ℕ → Bool → SegmentStatus
status_of n f = record { number = n; is_fenced = f }

pub values_apart : Separate value_bytes IsValue
values_apart = record {
  each = λ d e a b fits_d fits_e same.
      let numbers = same_number d.number e.number ((to_be_bytes w32 (length d.value) ++ d.value) ++ a)
      ((to_be_bytes w32 (length e.value) ++ e.value) ++ b) (omega (arith, fits_d.0)) (omega (arith, fits_e.0)) same in
      let lengths = same_length (length d.value) (length e.value) (d.value ++ a) (e.value
      ++ b) (omega (arith, fits_d.1)) (omega (arith, fits_e.1)) numbers.1 in
      let values = append_split d.value e.value a b lengths.0 lengths.1 in
      (ap₂ value_of numbers.0 values.0, values.1);
}

abbrev pub entry_of : NamedValue → SegmentValue
entry_of v = value_of v.number v.value

abbrev named_of : ℕ → SegmentValue → NamedValue
named_of s v = record { segment = s; number = v.number; value = v.value }

pub named_apart : Separate named_bytes IsNamedValue
named_apart = record {
  each = λ d e a b fits_d fits_e same.
      let segments : d.segment ≡ e.segment = cc in
      let rest = values_apart.each (entry_of d) (entry_of e) a b (fits_d.1, fits_d.2)
      (fits_e.1, fits_e.2) (ap (drop 1) same) in
      (ap₂ named_of segments rest.0, rest.1);
}

same_fence : (x y : Bool) → fence_byte x ≡ fence_byte y → x ≡ y
same_fence true true e = refl
same_fence false false e = refl
same_fence true false e = absurd (omega (arith, e))
same_fence false true e = absurd (omega (arith, e))

pub statuses_apart : Separate status_bytes IsStatus
statuses_apart = record {
  each = λ d e a b fits_d fits_e same.
      let numbers = same_number d.number e.number (fence_byte d.is_fenced ∷ a) (fence_byte e.is_fenced
      ∷ b) (omega (arith, fits_d)) (omega (arith, fits_e)) same in
      let fences : fence_byte d.is_fenced ≡ fence_byte e.is_fenced = cc in
      let tails : a ≡ b = ap (drop 1) numbers.1 in
      (ap₂ status_of numbers.0 (same_fence d.is_fenced e.is_fenced fences), tails);
}

-- three pieces were appended, one after the other
pub appended : (old a b c one two three : List ℕ) → one ≡ old ++ a → two ≡ one ++ b
    → three ≡ two ++ c → three ≡ old ++ (a ++ (b ++ c))
appended old a b c one two three is_one is_two is_three =
    is_three ∙ ap (λ xs. xs ++ c) (is_two ∙ ap (λ xs. xs ++ b) is_one ∙ append_assoc old a b)
    ∙ append_assoc old (a ++ b) c ∙ ap (λ xs. old ++ xs) (append_assoc a b c)
