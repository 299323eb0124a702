-- The record that a free buffer held before it was found, block by block.
use Rattle.std.proofs.Common.{◌≡◌, ℕ, zero, suc, ◌+◌, ◌<◌, ◌≤◌, List, [], ◌∷◌, ◌++◌, length, get_or, ap, sym, ◌∙◌}
use Rattle.std.proofs.Common.{arith, append_assoc, le_refl}
use Rattle.std.specs.Prelude.{slice_index}
use Rattle.snap_register.specs.History.{count, number, start_at, record_words, memory}
use Rattle.snap_register.specs.Rule.{segments, old_record, old_words, WasAt, IsLegal}
use Rattle.snap_register.specs.Held.{held, Readable}
use Rattle.snap_register.specs.Words.{value_at, block_at, size_at, words_for, piece, behind, IsWhole, IsBlock}
use Rattle.snap_register.specs.Steps.{IsAligned, IsOf}
use Rattle.snap_register.specs.declared.plan.{Entry.Entry, Plan.Plan, SeatView.SeatView}
use Rattle.snap_register.proofs.{Views.viewed, Blocks.piece_more, Blocks.behind_more, Lines.record_prefix}
use Rattle.snap_register.proofs.{Lines.count_prefix}
use mathlib.Core.List.{IsPrefix}

-- block k of its view, where the draft ends
record OldBlock (v : SeatView) (k : ℕ) : Type 0 where
  pub part : List Entry
  pub beginning : IsPrefix part v.seen
  pub is : IsBlock (old_words v) (length v.pool.draft) (number v.plan part k) (memory v.plan part k).1

old_block : (v : SeatView) (k q x : ℕ) → WasAt v q x → IsAligned v k → k < segments v.plan → OldBlock v k
old_block v k q x was a lk =
    let t = was a.some in
    let u = viewed v.plan v.seen v.low (old_record v) t.1 a.some t.0 in
    record { part = u.part; beginning = u.beginning; is = rw a.at (u.view.each k lk) }

-- each number of a segment has one value
value_same : (p : Plan) (part h : List Entry) (k r : ℕ) → IsPrefix part h → number p part k ≡ (start_at p k).number + r
    → (memory p part k).1 ≡ value_at (record_words p h k r) 0
value_same p part h k r pre same =
    let c : count k part ≡ r = omega arith in
    ap (λ (z : ℕ). value_at (record_words p part k z) 0) c
    ∙ ap (λ (l : List ℕ). value_at l 0) (sym (record_prefix p part h k r pre (omega arith)))

-- so a block of the same number and length is the same
pub record Stays (v : SeatView) (w : List ℕ) (at n l : ℕ) : Type 0 where
  pub whole : IsWhole (old_words v) (length v.pool.draft)
  pub block : block_at (old_words v) (length v.pool.draft) ≡ block_at w at
  pub number : get_or (old_words v) (length v.pool.draft) 0 ≡ n
  pub size : get_or (old_words v) (length v.pool.draft + 1) 0 ≡ l

pub stays : (v : SeatView) (k n l : ℕ) (w : List ℕ) (at : ℕ) → IsAligned v k → k < segments v.plan
    → WasAt v (length v.pool.draft) n → WasAt v (length v.pool.draft + 1) l → IsOf v.plan v.seen k w at
    → n ≡ get_or w at 0
    → Stays v w at n l
stays v k n l w at a lk was_n was_l of same =
    let b = old_block v k (length v.pool.draft) n was_n a lk in
    let to : ℕ = length v.pool.draft in
    let inside : to + 2 ≤ length (old_words v) = omega (arith, b.is.whole.inside) in
    let first : n ≡ get_or (old_words v) to 0 = (was_n a.some).2 (omega arith) in
    let second : l ≡ get_or (old_words v) (to + 1) 0 = (was_l a.some).2 (omega arith) in
    let nth : number v.plan b.part k ≡ (start_at v.plan k).number + of.nth =
    sym (ap (λ (x : ℕ × List ℕ). x.0) b.is.is) ∙ (sym first ∙ (same ∙ ap (λ (x : ℕ × List ℕ). x.0) of.block)) in
    record {
      whole = b.is.whole;
      block = b.is.is ∙ ((λ t. (nth t, value_same v.plan b.part v.seen k of.nth b.beginning nth t)) ∙ sym of.block);
      number = sym first;
      size = sym second;
    }

-- the draft of the second view goes on with a block of this length
pub aligned_first : (v w : SeatView) (x : ℕ) → old_words w ≡ old_words v → old_record w ≡ old_record v
    → 0 < old_record v → WasAt v 1 x → length w.pool.draft ≡ 2 + words_for x → IsAligned w 0
aligned_first v w x words same any was long =
    let t = was any in
    let u = viewed v.plan v.seen v.low (old_record v) t.1 any t.0 in
    let second : x ≡ get_or (old_words v) 1 0 = t.2 (omega (arith, u.own.whole.inside)) in
    record { some = omega arith; at = rw words (long ∙ ap (λ (n : ℕ). 2 + words_for n) second) }

pub aligned_next : (v w : SeatView) (k x : ℕ) → old_words w ≡ old_words v → old_record w ≡ old_record v
    → IsAligned v k → k < segments v.plan → WasAt v (length v.pool.draft + 1) x
    → length w.pool.draft ≡ length v.pool.draft + (2 + words_for x) → IsAligned w (k + 1)
aligned_next v w k x words same a lk was long =
    let o : List ℕ = old_words v in
    let b = old_block v k (length v.pool.draft + 1) x was a lk in
    let second : x ≡ get_or o (length v.pool.draft + 1) 0 = (was a.some).2 (omega (arith, b.is.whole.inside)) in
    record {
      some = omega (arith, a.some);
      at = rw words (long ∙ ((λ t. a.at t + (2 + words_for (second t)))
          ∙ ap (λ (z : ℕ). behind o (size_at o 0) k + (2 + words_for (get_or o (z + 1) 0))) a.at
          ∙ sym (behind_more o (size_at o 0) k)));
    }

-- two words, then those behind them
pub two_more : (d w : List ℕ) (at n l k : ℕ) → n ≡ get_or w at 0 → l ≡ get_or w (at + 1) 0
    → ((d ++ n ∷ []) ++ l ∷ []) ++ piece w (at + 2) k ≡ d ++ piece w at (2 + k)
two_more d w at n l zero first second = grind (arith, append_assoc, piece_more)
two_more d w at n l (suc k) first second =
    grind (arith, append_assoc, piece_more, two_more d w at n l k first second)

-- what a pinned record has of segment k, in its own block or in its view
pub of_record : (v : SeatView) (k : ℕ) → slice_index v.records k ≤ count k v.seen
    → Readable v.plan v.seen k (slice_index v.records k) → IsOf v.plan v.seen k (held v k) 0
of_record v k le read = record { nth = slice_index v.records k; seen = le; block = read.own.is }

pub of_view : (v : SeatView) (j k : ℕ) → IsLegal v.plan v.seen → 0 < slice_index v.records j
    → slice_index v.records j ≤ count j v.seen → k < segments v.plan
    → IsOf v.plan v.seen k (held v j) (behind (held v j) (size_at (held v j) 0) k)
of_view v j k legal any le lk =
    let u = viewed v.plan v.seen j (slice_index v.records j) legal any le in
    let p : Plan = v.plan in
    let same = record_prefix p u.part v.seen k (count k u.part) u.beginning (le_refl (count k u.part)) in
    record {
      nth = count k u.part;
      seen = count_prefix k u.part v.seen u.beginning;
      block = (u.view.each k lk).is ∙ (λ t. (number p u.part k, value_at (sym same t) 0));
    }
