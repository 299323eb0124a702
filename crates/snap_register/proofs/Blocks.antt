-- Blocks of words, copied and appended.
use Rattle.std.proofs.Common.{◌≡◌, ℕ, zero, suc, ◌+◌, ◌*◌, ◌<◌, ◌≤◌, List, [], ◌∷◌, ◌++◌, length, get_or, take, drop}
use Rattle.std.proofs.Common.{refl, ap, sym, ◌∙◌, arith, append_assoc, length-append}
use Rattle.std.proofs.lemmas.List.{take_at, take-take, get_or_append_left, get_or-append-add, get_or_push}
use Rattle.std.proofs.lemmas.List.{take-append-drop, drop-take}
use Rattle.std.specs.Int.{w64, to_le_bytes}
use Rattle.snap_history.specs.History.{Start}
use Rattle.snap_register.specs.Words.{words_for, bytes_at, length_at, value_at, size_at, block_at, piece, behind}
use Rattle.snap_register.specs.Words.{IsWhole, IsBlock, AreBlocks, IsRecord}
use mathlib.Core.List.{IsPrefix}
use mathlib.Core.Logic.{dite}
use native.Mathlib.Decide.{ℕ_discrete}

pub piece_more : (ws : List ℕ) (at k : ℕ) → piece ws at (k + 1) ≡ piece ws at k ++ get_or ws (at + k) 0 ∷ []
piece_more ws at k = let e : k + 1 ≡ suc k = omega arith in ap (piece ws at) e

pub piece_length : (ws : List ℕ) (at k : ℕ) → length (piece ws at k) ≡ k
piece_length ws at zero = refl
piece_length ws at (suc k) =
    omega (arith, length-append (piece ws at k) (get_or ws (at + k) 0 ∷ []), piece_length ws at k)

pub piece_get : (ws : List ℕ) (at k q : ℕ) → q < k → get_or (piece ws at k) q 0 ≡ get_or ws (at + q) 0
piece_get ws at zero q lt = absurd (omega arith)
piece_get ws at (suc k) q lt = grind (arith, get_or_push, get_or_append_left, piece_length ws at k, piece_get ws at k q)

pub bytes_more : (ws : List ℕ) (at k : ℕ) → bytes_at ws at (k + 1) ≡ bytes_at ws at k
    ++ to_le_bytes w64 (get_or ws (at + k) 0)
bytes_more ws at k = let e : k + 1 ≡ suc k = omega arith in ap (bytes_at ws at) e

pub bytes_same : (d w : List ℕ) (a b k : ℕ)
    → ((q : ℕ) → q < k → get_or d (a + q) 0 ≡ get_or w (b + q) 0) → bytes_at d a k ≡ bytes_at w b k
bytes_same d w a b zero each = refl
bytes_same d w a b (suc k) each = λ t. bytes_same d w a b k (λ q lq. each q (omega arith)) t
    ++ to_le_bytes w64 (each k (omega arith) t)

pub size_small : (ws : List ℕ) (at : ℕ) → IsWhole ws at → size_at ws at ≤ 512
size_small ws at w = omega (arith, w.short)

-- the words at b are a copy of the block at a
pub record Copied (d w : List ℕ) (a b : ℕ) : Type 0 where
  pub whole : IsWhole d a
  pub size : size_at d a ≡ size_at w b
  pub block : block_at d a ≡ block_at w b

pub block_same : (d w : List ℕ) (a b : ℕ) → IsWhole w b → ((q : ℕ) → q < size_at w b
    → get_or d (a + q) 0 ≡ get_or w (b + q) 0) → a + size_at w b ≤ length d → Copied d w a b
block_same d w a b whole each fits =
    let k : ℕ = words_for (length_at w b) in
    let number : get_or d a 0 ≡ get_or w b 0 = grind (arith, each 0 (omega arith)) in
    let len : length_at d a ≡ length_at w b = each 1 (omega arith) in
    let bytes : bytes_at d (a + 2) k ≡ bytes_at w (b + 2) k = bytes_same d w (a + 2) (b + 2) k
    (λ q lq. grind (arith, each (2 + q) (omega arith))) in
    let value : value_at d a ≡ value_at w b =
    ap (λ (n : ℕ). take n (bytes_at d (a + 2) (words_for n))) len ∙ ap (take (length_at w b)) bytes in
    record {
      whole = omega (arith, whole.short);
      size = ap (λ (n : ℕ). 2 + words_for n) len;
      block = λ t. (number t, value t);
    }

-- a block stays when words are appended
pub block_stays : (d e : List ℕ) (a : ℕ) → IsPrefix d e → IsWhole d a → Copied e d a a
block_stays d e a pre whole = grind (arith, length-append, block_same, get_or_append_left)

pub behind_stays : (d e : List ℕ) (a k : ℕ) → IsPrefix d e
    → ((i : ℕ) → i < k → IsWhole d (behind d a i)) → behind e a k ≡ behind d a k
behind_stays d e a zero pre each = refl
behind_stays d e a (suc k) pre each =
    let s = (block_stays d e (behind d a k) pre (each k (omega arith))).size in
    ap (λ (z : ℕ). z + size_at e z) (behind_stays d e a k pre (λ i li. each i (omega arith)))
    ∙ ap (λ (z : ℕ). behind d a k + z) s

pub behind_more : (ws : List ℕ) (at k : ℕ) → behind ws at (k + 1) ≡ behind ws at k + size_at ws (behind ws at k)
behind_more ws at k = let e : k + 1 ≡ suc k = omega arith in ap (behind ws at) e

pub behind_small : (ws : List ℕ) (at k : ℕ) → ((i : ℕ) → i < k → IsWhole ws (behind ws at i))
    → behind ws at k ≤ at + k * 512
behind_small ws at zero each = omega arith
behind_small ws at (suc k) each =
    let r = behind_small ws at k (λ i li. each i (omega arith)) in
    omega (arith, size_small ws (behind ws at k) (each k (omega arith)))

-- one block more is appended
pub blocks_push : (d w : List ℕ) (at from k : ℕ) (f : Start) → AreBlocks d at k f → IsWhole w from
    → block_at w from ≡ f k → AreBlocks (d ++ piece w from (size_at w from)) at (k + 1) f
blocks_push d w at from k f old whole is =
    let n : ℕ = size_at w from in
    let p : List ℕ = piece w from n in
    let e : List ℕ = d ++ p in
    let pre : IsPrefix d e = (p, refl) in
    let lp : length p ≡ n = piece_length w from n in
    let le : length e ≡ length d + length p = length-append d p in
    let behind_k : behind e at k ≡ length d =
    behind_stays d e at k pre (λ i li. (old.each i li).whole) ∙ old.last in
    let new : Copied e w (length d) from = block_same e w (length d) from whole
    (λ q lq. get_or-append-add d p q 0 ∙ piece_get w from n q lq) (omega arith) in
    record {
      each = λ i li. dite (ℕ_discrete i k)
          (λ same. rw (same, behind_k) (record { whole = new.whole; is = new.block ∙ is })) (λ before.
          let b = old.each i (omega arith) in
          let s = block_stays d e (behind d at i) pre b.whole in
          rw (behind_stays d e at i pre (λ j lj. (old.each j (omega arith)).whole))
          (record { whole = s.whole; is = s.block ∙ b.is }));
      last = behind_more e at k ∙ rw behind_k (omega (arith, new.size));
    }

-- the words of an update: its own block and those of its view
pub record_of : (d e : List ℕ) (n k : ℕ) (v : List ℕ) (f g : Start) → IsBlock d 0 k v → length d ≡ size_at d 0
    → IsPrefix d e → AreBlocks e (length d) n f → ((i : ℕ) → i < n → f i ≡ g i) → IsRecord n k v g e
record_of d e n k v f g own long pre blocks same =
    let s = block_stays d e 0 pre own.whole in
    record {
      own = record { whole = s.whole; is = s.block ∙ own.is };
      view = rw (s.size ∙ sym long) (record {
        each = λ i li. let b = blocks.each i li in record { whole = b.whole; is = b.is ∙ same i li };
        last = blocks.last;
      });
    }

-- taking n + k elements takes n, then k more
pub take_piece : (n k : ℕ) (xs : List ℕ) → take (n + k) xs ≡ take n xs ++ take k (drop n xs)
take_piece n k xs = sym (take-append-drop n (take (n + k) xs))
    ∙ (λ i. take-take n (n + k) xs (omega arith) i ++ drop-take n k xs i)

-- one word more
bytes_next : (d front next : List ℕ) (k w : ℕ) → length d ≡ 2 + k → bytes_at d 2 k ≡ front
    → to_le_bytes w64 w ≡ next → bytes_at (d ++ w ∷ []) 2 (k + 1) ≡ front ++ next
bytes_next d front next k w long old new = grind (arith, bytes_same, get_or_append_left, bytes_more, get_or_push)

-- one word more, of eight of the bytes
pub bytes_push : (d value : List ℕ) (k w : ℕ) → length d ≡ 2 + k → bytes_at d 2 k ≡ take (8 * k) value
    → to_le_bytes w64 w ≡ take 8 (drop (8 * k) value) → bytes_at (d ++ w ∷ []) 2 (k + 1) ≡ take (8 * (k + 1)) value
bytes_push d value k w long old new =
    let at : 8 * k + 8 ≡ 8 * (k + 1) = omega arith in
    bytes_next d _ _ k w long old new ∙ (sym (take_piece (8 * k) 8 value) ∙ ap (λ (z : ℕ). take z value) at)

pub bytes_all : (d bytes : List ℕ) (k : ℕ) → ((q : ℕ) → q < k
    → to_le_bytes w64 (get_or d (2 + q) 0) ≡ take 8 (drop (8 * q) bytes)) → bytes_at d 2 k ≡ take (8 * k) bytes
bytes_all d bytes zero each = refl
bytes_all d bytes (suc k) each =
    let at : 8 * suc k ≡ 8 * k + 8 = omega arith in
    (λ i. bytes_all d bytes k (λ q lq. each q (omega arith)) i ++ each k (omega arith) i)
    ∙ (sym (take_piece (8 * k) 8 bytes) ∙ ap (λ (z : ℕ). take z bytes) (sym at))

pub words_enough : (n : ℕ) → n ≤ 4080 → (words_for n ≤ 510) × (n ≤ 8 * words_for n)
words_enough n le = (omega arith, omega arith)

-- the first block, by its words
pub first_block : (d value : List ℕ) (k : ℕ) → length value ≤ 4080
    → 2 + words_for (length value) ≤ length d → get_or d 0 0 ≡ k → get_or d 1 0 ≡ length value
    → take (length value) (bytes_at d 2 (words_for (length value))) ≡ value → IsBlock d 0 k value
first_block d value k le fits number len bytes =
    let val : value_at d 0 ≡ value = ap (λ (n : ℕ). take n (bytes_at d 2 (words_for n))) len ∙ bytes in
    record { whole = omega arith; is = λ t. (number t, val t) }

pub packed_block : (d value bytes : List ℕ) (k n : ℕ) → length value ≤ 4080 → length d ≡ 512 → 510 ≤ n
    → get_or d 0 0 ≡ k → get_or d 1 0 ≡ length value → take (length value) bytes ≡ value → ((q : ℕ) → q < n
    → to_le_bytes w64 (get_or d (2 + q) 0) ≡ take 8 (drop (8 * q) bytes)) → IsBlock d 0 k value
packed_block d value bytes k n le long all number len whole each =
    let w = words_enough (length value) le in
    first_block d value k le (omega arith) number len
    (ap (take (length value)) (bytes_all d bytes (words_for (length value)) (λ q lq.
    each q (omega arith))) ∙ (take-take (length value) (8 * words_for (length value)) bytes w.1 ∙ whole))

-- the last word, with the bytes after the whole words
pub tail_bytes : (d value rest : List ℕ) (k w : ℕ) → length d ≡ 2 + k → bytes_at d 2 k ≡ take (8 * k) value
    → to_le_bytes w64 w ≡ drop (8 * k) value ++ rest → words_for (length value) ≡ k + 1
    → take (length value) (bytes_at (d ++ w ∷ []) 2 (words_for (length value))) ≡ value
tail_bytes d value rest k w long old new last =
    let whole : take (8 * k) value ++ (drop (8 * k) value ++ rest) ≡ value ++ rest =
    sym (append_assoc (take (8 * k) value) (drop (8 * k) value) rest)
    ∙ ap (λ l. l ++ rest) (take-append-drop (8 * k) value) in
    rw (last, bytes_next d _ _ k w long old new, whole) (take_at value rest (length value) refl)
