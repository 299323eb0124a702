-- Numbers at the front of bytes, and their bytes again.
use Rattle.std.proofs.Common.{◌≡◌, ℕ, ◌<◌, ◌≤◌, ◌^◌, List, ◌++◌, length, get_or, take, drop, inl, inr, sym, ◌∙◌, ap}
use Rattle.std.proofs.Common.{arith, length-take}
use Rattle.std.specs.Int.{Width, w16, w32, w64, to_be_bytes, from_be_bytes}
use Rattle.std.proofs.lemmas.List.{get_or-take, get_or_past, take-append-drop}
use Rattle.std.proofs.lemmas.Bool.{cases_lt}
use Rattle.std.proofs.lemmas.Nat.{be_bytes_2, be_bytes_4, be_bytes_8, from_be_bytes-to_be_bytes_2}
use Rattle.std.proofs.lemmas.Nat.{from_be_bytes-to_be_bytes_4, from_be_bytes-to_be_bytes_8}
use Rattle.snap_frame.specs.Stream.{IsBytes}
use Rattle.byteorder.specs.Endian.{big_number}

pub bytes-take : (n : ℕ) (xs : List ℕ) → IsBytes xs → IsBytes (take n xs)
bytes-take n xs bytes i =
    elim (cases_lt i n) [
      | inl below ↦ rw (get_or-take n xs i 0 below) (bytes i)
      | inr past ↦ rw (get_or_past (take n xs) i 0 (omega (arith, length-take n xs))) (omega arith)
    ]

first_same : (n : ℕ) (xs : List ℕ) (i : ℕ) → i < n → get_or (take n xs) i 0 ≡ get_or xs i 0
first_same n xs i below = get_or-take n xs i 0 below

pub eight_again : (xs : List ℕ) → IsBytes xs → 8 ≤ length xs → to_be_bytes w64 (big_number 8 xs) ≡ take 8 xs
eight_again xs bytes long =
    be_bytes_8 (take 8 xs) _ (omega (arith, length-take 8 xs)) (bytes-take 8 xs bytes) (omega (arith, first_same 8 xs))

pub four_again : (xs : List ℕ) → IsBytes xs → 4 ≤ length xs → to_be_bytes w32 (big_number 4 xs) ≡ take 4 xs
four_again xs bytes long =
    be_bytes_4 (take 4 xs) _ (omega (arith, length-take 4 xs)) (bytes-take 4 xs bytes) (omega (arith, first_same 4 xs))

pub two_again : (xs : List ℕ) → IsBytes xs → 2 ≤ length xs → to_be_bytes w16 (big_number 2 xs) ≡ take 2 xs
two_again xs bytes long =
    be_bytes_2 (take 2 xs) _ (omega (arith, length-take 2 xs)) (bytes-take 2 xs bytes) (omega (arith, first_same 2 xs))

-- the first n bytes are those of a number, and the rest follows
pub front_is : (n : ℕ) (xs number : List ℕ) → number ≡ take n xs → xs ≡ number ++ drop n xs
front_is n xs number is = sym (take-append-drop n xs) ∙ ap (λ zs. zs ++ drop n xs) (sym is)

-- equal bytes mean one number
same_bytes : (w : Width) (m n : ℕ) → from_be_bytes w (to_be_bytes w m) ≡ m
    → from_be_bytes w (to_be_bytes w n) ≡ n → to_be_bytes w m ≡ to_be_bytes w n → m ≡ n
same_bytes w m n one two e = sym one ∙ ap (from_be_bytes w) e ∙ two

pub same_number : (m n : ℕ) (xs ys : List ℕ) → m < 2 ^ 64 → n < 2 ^ 64
    → to_be_bytes w64 m ++ xs ≡ to_be_bytes w64 n ++ ys → (m ≡ n) × (xs ≡ ys)
same_number m n xs ys m_fits n_fits e = (
  same_bytes w64 m n (from_be_bytes-to_be_bytes_8 m m_fits) (from_be_bytes-to_be_bytes_8 n n_fits) (ap (take 8) e),
  ap (drop 8) e,
)

pub same_length : (m n : ℕ) (xs ys : List ℕ) → m < 2 ^ 32 → n < 2 ^ 32
    → to_be_bytes w32 m ++ xs ≡ to_be_bytes w32 n ++ ys → (m ≡ n) × (xs ≡ ys)
same_length m n xs ys m_fits n_fits e = (
  same_bytes w32 m n (from_be_bytes-to_be_bytes_4 m m_fits) (from_be_bytes-to_be_bytes_4 n n_fits) (ap (take 4) e),
  ap (drop 4) e,
)

pub same_set : (m n : ℕ) → m < 2 ^ 16 → n < 2 ^ 16 → to_be_bytes w16 m ≡ to_be_bytes w16 n → m ≡ n
same_set m n m_fits n_fits =
    same_bytes w16 m n (from_be_bytes-to_be_bytes_2 m m_fits) (from_be_bytes-to_be_bytes_2 n n_fits)
