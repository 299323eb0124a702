use Rattle.std.proofs.Common.{rules, ◌≡◌, ℕ, ◌+◌, ◌-◌, ◌++◌, ◌∷◌, [], List, length, get_or, refl, ap, sym}
use Rattle.std.proofs.Common.{subst, ◌∙◌, arith, length-append, true}
use Rattle.snap_register.specs.Steps.{view_of, draft_of, IsOld, HasCopied, HasDrafted}
use Rattle.snap_register.specs.{Registers.Mine, Rule.WasAt, Rule.old_words, Rule.old_record, Rule.cell, Held.held}
use Rattle.snap_register.specs.{Words.size_at, Words.words_for, Words.piece, declared.plan.SeatView.SeatView}
use Rattle.snap_register.proofs.Aligned.{Stays, stays, aligned_next}
use Rattle.snap_register.proofs.{Drafts.headed_then, Drafts.drafted_none, Blocks.piece_length}
use Rattle.snap_register.proofs.access.Access.copy_block.Goals as goal
use Rattle.snap_register.proofs.access.Access.copy_block.Goals.{After-block_size-count, After-keep-arg-1}
use Rattle.snap_register.proofs.access.Access.copy_block.Goals.{After-struct_known-1, then-end, else-end}
use Rattle.snap_register.proofs.access.Access.copy_block.Goals.{then-is_aligned+then-old_number-number}
use Rattle.snap_register.proofs.access.Access.copy_block.Goals.{else-is_aligned+then-count-gt2}
use Rattle.snap_register.proofs.access.Access.copy_block.Goals.{else-is_aligned+else-count-gt2}

headed : (c : After-block_size-count) → HasDrafted c.args.self.now c.draft-old_length.new.self
    ((draft_of c.args.self.now ++ c.read-number.result ∷ []) ++ c.read-length.result ∷ [])
headed c = search rules

was_number : (c : After-block_size-count)
    → WasAt (view_of c.args.self.now) (length (draft_of c.args.self.now)) c.draft-old_number.result
was_number c = subst (λ (m : Mine). WasAt m.0 (length m.0.pool.draft) c.draft-old_number.result)
    (c.read-length.ensures.same.2 ∙ c.read-number.ensures.same.2) c.draft-old_number.ensures.old

was_length : (c : After-block_size-count)
    → WasAt (view_of c.args.self.now) (length (draft_of c.args.self.now) + 1) c.draft-old_length.result
was_length c =
    let a = c.args.self.now in
    let d : List ℕ = draft_of a ++ c.read-number.result ∷ [] in
    let first : HasDrafted a c.draft-old_number.new.self d = search rules in
    let long : length d ≡ length (draft_of a) + 1 = length-append (draft_of a) (c.read-number.result ∷ []) in
    let was = subst (λ (m : Mine). WasAt m.0 (length m.0.pool.draft) c.draft-old_length.result) first.3
    c.draft-old_length.ensures.old in
    subst (λ (q : ℕ). WasAt (view_of a) q c.draft-old_length.result) long was

number_is : (c : After-block_size-count)
    → c.read-number.result ≡ get_or (held (view_of c.args.self.now) c.args.j) c.args.from 0
number_is c = c.read-number.ensures.word

length_is : (c : After-block_size-count)
    → c.read-length.result ≡ get_or (held (view_of c.args.self.now) c.args.j) (c.args.from + 1) 0
length_is c = c.read-length.ensures.word
    ∙ ap (λ (m : Mine). get_or (held m.0 c.args.j) (c.args.from + 1) 0) c.read-number.ensures.same.2

-- the draft ends at a block of the old record with this number and this length
record IsThere (c : After-block_size-count) : Type 0 where
  aligned : c.args.end.is_aligned ≡ true
  number : c.draft-old_number.result ≡ c.read-number.result
  size : c.draft-old_length.result ≡ c.read-length.result

facts : (c : After-block_size-count) → IsThere c → Stays (view_of c.args.self.now)
    (held (view_of c.args.self.now) c.args.j) c.args.from c.draft-old_number.result c.draft-old_length.result
facts c is =
    let s = c.requires.segment in
    stays (view_of c.args.self.now) s.0 _ _ _ c.args.from (s.2 is.aligned) s.1 (was_number c) (was_length c) s.3
    (is.number ∙ number_is c)

-- how many words there are before the rest
headed_size : (c : After-block_size-count) → length ((draft_of c.args.self.now ++ c.read-number.result ∷ [])
    ++ c.read-length.result ∷ []) ≡ length (draft_of c.args.self.now) + 2
headed_size c = let d : List ℕ = draft_of c.args.self.now in omega (
  arith,
  length-append d (c.read-number.result ∷ []),
  length-append (d ++ c.read-number.result ∷ []) (c.read-length.result ∷ []),
)

kept_at : (c : After-block_size-count) → IsThere c → IsOld (view_of c.draft-old_length.new.self)
    (c.args.end.at + c.block_size-count.result - 1) (c.cell-target.result + c.block_size-count.result - 1)
kept_at c is =
    let s = facts c is in
    let v : SeatView = view_of c.args.self.now in
    let place : c.cell-target.result ≡ cell v.plan c.args.i v.pool.free_buffer c.args.end.at =
    c.cell-target.ensures.0 ∙ ((λ t. cell (c.read-length.ensures.same.2 t).0.plan c.args.i c.args.b c.args.end.at)
    ∙ (λ t. cell (c.read-number.ensures.same.2 t).0.plan c.args.i (c.requires.buffer.0 t) c.args.end.at)) in
    let count = c.block_size-count.ensures in
    let at = c.requires.place in
    rw (headed c).3 (record {
      own = c.args.i;
      owns = c.requires.own;
      free = rw (← c.requires.buffer.0) c.requires.buffer.1;
      some = (c.requires.segment.2 is.aligned).some;
      behind = omega (arith, headed_size c);
      inside = (omega (arith, s.whole.short, s.size, is.size), omega (arith, s.whole.inside, s.size, is.size));
      is = omega arith;
    })

pub keep-requires : goal.keep-requires
keep-requires c =
    let e : (c.args.end.is_aligned ≡ true) × (c.draft-old_length.result ≡ c.read-length.result) = search rules in
    record {
      place = (
        c.args.end.at + c.block_size-count.result - 1,
        kept_at (goal.at.keep-requires c).After-block_size-count
            (record { aligned = e.0; number = c.if-old_number-number.true; size = e.1 }),
      );
    }

end_is : (c : After-struct_known-1) → c.if-end.is_aligned ≡ true
    → (c.args.end.is_aligned ≡ true) × (c.draft-old_length.result ≡ c.read-length.result)
end_is c is = search rules

pub returns-clause-copied : goal.returns-clause-copied
returns-clause-copied c =
    let b = (goal.at.returns-clause-copied c).After-block_size-count in
    let a = c.args.self.now in
    let m = c.draft-old_length.new.self in
    let n = c.if-is_aligned.self in
    let to : ℕ = length (draft_of a) in
    let h = headed b in
    let v : SeatView = view_of a in
    let w : List ℕ = held v c.args.j in
    let count = c.block_size-count.ensures in
    let size : c.block_size-count.result ≡ size_at w c.args.from =
    count ∙ ap (λ (z : ℕ). 2 + words_for z) (length_is b) in
    let all : c.args.end.at + c.block_size-count.result - c.args.end.at ≡ c.block_size-count.result = omega arith in
    let behind : 2 + (c.block_size-count.result - 2) ≡ c.block_size-count.result = omega arith in
    let read : (k : ℕ) → 2 + k ≡ c.block_size-count.result → HasDrafted m n (draft_of m ++ piece w (c.args.from + 2) k)
    → HasCopied a n c.args.j c.args.from c.block_size-count.result = λ k e rest. record {
      words = w;
      from = c.args.from;
      same = rw (← e) (headed_then a m n w c.args.from _ _ k h rest (number_is b) (length_is b));
      whole = c.requires.block;
      size = size;
      block = refl;
    } in
    rw all (elim c.if-is_aligned.branch [
      | then-is_aligned+then-old_number-number w' ↦
          let e = end_is c w'.if-is_aligned.true in
          let is : IsThere b = record { aligned = e.0; number = w'.if-old_number-number.true; size = e.1 } in
          let s = facts b is in
          let o : List ℕ = old_words v in
          let long : length (draft_of m) ≡ to + 2 = ap (λ (x : Mine). length x.0.pool.draft) h.3 ∙ headed_size b in
          let left : c.args.end.at + c.block_size-count.result - 1 + 1 - length (draft_of m)
          ≡ c.block_size-count.result - 2 = omega (arith, c.requires.place.0) in
          let rest : HasDrafted m n (draft_of m ++ piece o (to + 2) (c.block_size-count.result - 2)) =
          rw w'.self-is (subst (λ (x : List ℕ × ℕ × ℕ). HasDrafted m w'.keep.new.self (draft_of m ++ piece x.0 x.1 x.2))
          (λ t. (old_words (h.3 t).0, long t, left t)) (w'.keep.ensures.same _ (kept_at b is))) in
          record {
            words = o;
            from = to;
            same = rw (← behind) (headed_then a m n o to _ _ (c.block_size-count.result - 2) h rest
                (sym (s.number ∙ is.number)) (sym (s.size ∙ is.size)));
            whole = s.whole;
            size = count ∙ ap (λ (z : ℕ). 2 + words_for z) (sym (s.size ∙ is.size));
            block = s.block;
          }
      | else-is_aligned+then-count-gt2 w' ↦
          read (c.block_size-count.result - 2) behind (rw w'.self-is (subst (λ (l : List ℕ). HasDrafted m
          w'.copy_rest.new.self (draft_of m ++ piece l (c.args.from + 2) (c.block_size-count.result - 2)))
          (ap (λ (x : Mine). held x.0 c.args.j) h.3) w'.copy_rest.ensures.same))
      | else-is_aligned+else-count-gt2 w' ↦ read 0 (omega (arith, w'.if-count-gt2.false))
          (rw w'.self-is (drafted_none m w (c.args.from + 2)))
    ])

pub returns-clause-aligned : goal.returns-clause-aligned
returns-clause-aligned c = λ k lk old is.
    let b = (goal.at.returns-clause-aligned c).After-block_size-count in
    let a = c.args.self.now in
    let n = c.if-is_aligned.self in
    let d = returns-clause-copied c in
    let l : List ℕ = piece d.words d.from (c.args.end.at + c.block_size-count.result - c.args.end.at) in
    let long = length-append (draft_of a) l in
    let piece_long = piece_length d.words d.from (c.args.end.at + c.block_size-count.result - c.args.end.at) in
    let count = c.block_size-count.ensures in
    let e = end_is c is in
    aligned_next (view_of a) (view_of n) k c.draft-old_length.result (ap (λ (m : Mine). old_words m.0) d.same.3)
    (ap (λ (m : Mine). old_record m.0) d.same.3) (old e.0) lk (was_length b)
    (ap (λ (m : Mine). length m.0.pool.draft) d.same.3 ∙ omega (arith, long, piece_long, e.1))

pub overflow_add-from-then-count-gt2 : goal.overflow_add-from-then-count-gt2
overflow_add-from-then-count-gt2 c = grind arith

pub overflow_add-from : goal.overflow_add-from
overflow_add-from c = grind arith
