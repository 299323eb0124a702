-- A seat after it stored words into the free buffer.
use Rattle.std.proofs.Common.{◌≡◌, ℕ, ◌+◌, ◌-◌, ◌*◌, ◌≤◌, ◌++◌, ◌∷◌, [], List, length, get_or, refl, ap, sym, subst}
use Rattle.std.proofs.Common.{◌∙◌, arith, length-append, append-nil}
use Rattle.snap_history.specs.History.{Start}
use Rattle.snap_register.specs.Words.{AreBlocks, piece, size_at, block_at}
use Rattle.snap_register.specs.{declared.access.Access.Access, Registers.Mine, Held.held, Steps.draft_of}
use Rattle.std.specs.Prelude.{IsTrue}
use Rattle.snap_register.specs.{Steps.HasDrafted, Steps.HasCopied, Steps.IsAligned, Steps.view_of}
use Rattle.snap_register.specs.declared.access.draft.DraftEnd.{DraftEnd}
use Rattle.snap_register.proofs.{Blocks.blocks_push, Blocks.piece_length, Lines.prefix_trans, Aligned.two_more}
use mathlib.Core.List.{IsPrefix}

-- m with this draft
abbrev pub drafting : Mine → List ℕ → Mine
drafting m l = (record m.0 { pool = record m.0.pool { draft = l } }, m.1)

-- nothing changed but the draft
abbrev pub Drafted : Mine → Mine → Type 0
Drafted m n = n ≡ drafting m n.0.pool.draft

abbrev pub DraftedBy : Mine → List ℕ → Mine → Type 0
DraftedBy m l n = n ≡ drafting m l

pub draft_is : (m n : Mine) (l : List ℕ) → DraftedBy m l n → n.0.pool.draft ≡ l
draft_is m n l e = ap (λ (x : Mine). x.0.pool.draft) e

pub drafted : (m n : Mine) (l : List ℕ) → DraftedBy m l n → Drafted m n
drafted m n l e = e ∙ ap (λ (x : Mine). drafting m x.0.pool.draft) (sym e)

pub drafted_then : (a m n : Mine) (l : List ℕ) → Drafted a m → DraftedBy m l n → DraftedBy a l n
drafted_then a m n l d e = e ∙ ap (λ (x : Mine). drafting x l) d

pub held_drafted : (m n : Mine) (j : ℕ) → Drafted m n → held n.0 j ≡ held m.0 j
held_drafted m n j d = ap (λ (x : Mine). held x.0 j) d

-- two words, then those behind them in w
pub headed_then : (a m n : Access) (w : List ℕ) (at x y k : ℕ) → HasDrafted a m ((draft_of a ++ x ∷ []) ++ y ∷ [])
    → HasDrafted m n (draft_of m ++ piece w (at + 2) k) → x ≡ get_or w at 0 → y ≡ get_or w (at + 1) 0
    → HasDrafted a n (draft_of a ++ piece w at (2 + k))
headed_then a m n w at x y k head rest first second =
    let d : List ℕ = (draft_of a ++ x ∷ []) ++ y ∷ [] in
    let by = drafted_then a.seat.me m.seat.me n.seat.me (draft_of m ++ piece w (at + 2) k)
    (drafted a.seat.me m.seat.me d head.3) rest.3 in (
      rest.0 ∙ head.0,
      rest.1 ∙ head.1,
      rest.2 ∙ head.2,
      subst (λ (l : List ℕ). DraftedBy a.seat.me l n.seat.me)
          (ap (λ (l : List ℕ). l ++ piece w (at + 2) k) (draft_is a.seat.me m.seat.me d head.3)
          ∙ two_more (draft_of a) w at x y k first second) by,
    )

-- nothing is drafted
pub drafted_none : (a : Access) (w : List ℕ) (at : ℕ) → HasDrafted a a (draft_of a ++ piece w at 0)
drafted_none a w at = (refl, refl, refl, ap (λ (l : List ℕ). drafting a.seat.me l) (sym (append-nil (draft_of a))))

-- k blocks of an update's view were appended to a draft that ended at place `at`
pub record HasAppended (a b : Access) (at : ℕ) (to : DraftEnd) (k : ℕ) (f : Start) : Type 0 where
  pub same : HasDrafted a b (draft_of b)
  pub to_is : to.at ≡ length (draft_of b)
  pub small : to.at ≤ 512 + k * 512
  pub prefix : IsPrefix (draft_of a) (draft_of b)
  pub blocks : AreBlocks (draft_of b) at k f
  pub aligned : IsTrue to.is_aligned → IsAligned (view_of b) k

-- one block more was appended
pub block_copied : (a m n : Access) (at k j from : ℕ) (to next : DraftEnd) (f : Start) → HasAppended a m at to k f
    → HasCopied m n j from (next.at - to.at) → (next.at ≡ to.at + size_at (held (view_of m) j) from)
    × (next.at ≤ to.at + 512) → block_at (held (view_of m) j) from ≡ f k
    → (IsTrue next.is_aligned → IsAligned (view_of n) (k + 1)) → HasAppended a n at next (k + 1) f
block_copied a m n at k j from to next f old step size is aligned =
    let d : List ℕ = draft_of m in
    let p : List ℕ = piece step.words step.from (next.at - to.at) in
    let by = drafted_then a.seat.me m.seat.me n.seat.me (d ++ p) old.same.3 step.same.3 in
    let new : draft_of n ≡ d ++ p = draft_is a.seat.me n.seat.me (d ++ p) by in
    let long : length (draft_of n) ≡ length d + length p = ap length new ∙ length-append d p in
    record {
      same = (
        step.same.0 ∙ old.same.0,
        step.same.1 ∙ old.same.1,
        step.same.2 ∙ old.same.2,
        drafted a.seat.me n.seat.me (d ++ p) by,
      );
      to_is = omega (arith, old.to_is, piece_length step.words step.from (next.at - to.at));
      small = omega (arith, old.small);
      prefix = prefix_trans (draft_of a) d (draft_of n) old.prefix (p, sym new);
      blocks = rw (new ∙ ap (λ (z : ℕ). d ++ piece step.words step.from z) step.size)
          (blocks_push d step.words at step.from k f old.blocks step.whole (step.block ∙ is));
      aligned = aligned;
    }
