use Rattle.std.proofs.Common.{◌≡◌, ℕ, ◌+◌, ◌≤◌, ◌++◌, ◌∷◌, [], List, length, get_or, refl, ap, sym, ◌∙◌, arith}
use Rattle.std.proofs.Common.{append_assoc}
use Rattle.snap_register.{specs.Steps.LiesAt, specs.Steps.IsNext, proofs.Spots.lies_more, proofs.Spots.next_more}
use Rattle.snap_register.{specs.Registers.Mine, specs.Held.held, specs.Words.piece, proofs.Drafts.DraftedBy}
use Rattle.snap_register.proofs.{Blocks.piece_more, Blocks.piece_length, words.copy_words.Goals.In-loop-q}
use Rattle.snap_register.proofs.words.copy_words.Goals as goal

-- the place of the next word
lies : (c : In-loop-q) (j from : ℕ) → LiesAt c.args.seat.now.me.0 j from c.args.source
    → from + c.args.count ≤ length (held c.args.seat.now.me.0 j)
    → LiesAt c.loop-q.seat.me.0 j (from + c.loop-q.q) (c.args.source + c.loop-q.q)
lies c j from first inside =
    let q : ℕ = c.loop-q.q in
    let lt = c.loop-q-test.true in
    let here = lies_more c.args.seat.now.me.0 j from q (from + q) c.args.source (c.args.source + q) first
    (omega arith) refl refl in
    rw (c.loop-q.invariant.copied j from first inside).2
    (record { pinned = here.pinned; inside = here.inside; is = here.is })

pub load_word-word-requires : goal.load_word-word-requires
load_word-word-requires c =
    let w = c.requires.words in
    record {
      own = (c.loop-q.invariant.copied w.0 w.1 w.2 w.3).0 ∙ c.requires.own;
      seated = c.loop-q.invariant.seated;
      place = (w.0, w.1 + c.loop-q.q, lies (goal.at.load_word-word-requires c).In-loop-q w.0 w.1 w.2 w.3);
    }

pub draft_word-requires : goal.draft_word-requires
draft_word-requires c =
    let a = c.args.seat.now.me in
    let q : ℕ = c.loop-q.q in
    let w = c.requires.words in
    let now = c.loop-q.invariant.copied w.0 w.1 w.2 w.3 in
    let same = c.load_word-word.ensures.same in
    let lt = c.loop-q-test.true in
    let next = c.requires.place.0 in
    let fits = c.requires.place.1 in
    let ws : List ℕ = piece (held a.0 w.0) w.1 q in
    let there : IsNext (record a.0 { pool = record a.0.pool { draft = a.0.pool.draft ++ ws } }) (c.args.target + q) =
    next_more a.0 next.own a.0.pool.free_buffer (length a.0.pool.draft) q c.args.target (c.args.target + q) ws
    next.owns (refl, next.free) refl (piece_length (held a.0 w.0) w.1 q) (omega arith) next.is refl in
    let seated = c.loop-q.invariant.seated in
    record {
      own = same.0 ∙ (now.0 ∙ c.requires.own);
      seated = (seated.0, seated.1, rw (same.2, same.0) seated.2);
      place = rw (same.2, now.2) there;
    }

pub loop-q-preserved : goal.loop-q-preserved
loop-q-preserved c =
    let a = c.args.seat.now.me in
    let q : ℕ = c.loop-q.q in
    let d : List ℕ = a.0.pool.draft in
    let x : ℕ = c.load_word-word.result in
    let step = c.draft_word.ensures.drafted in
    let same = c.load_word-word.ensures.same in
    record {
      seated = c.draft_word.ensures.seated;
      copied = λ j from first inside.
          let w : List ℕ = held a.0 j in
          let p : List ℕ = piece w from q in
          let old = c.loop-q.invariant.copied j from first inside in
          let now : DraftedBy a (d ++ p) c.load_word-word.new.seat.me = same.2 ∙ old.2 in
          let word : x ≡ get_or w (from + q) 0 =
          c.load_word-word.ensures.word j (from + q) (lies (goal.at.loop-q-preserved c).In-loop-q j from first inside)
          ∙ ap (λ (m : Mine). get_or (held m.0 j) (from + q) 0) old.2 in
          let more : (d ++ p) ++ x ∷ [] ≡ d ++ piece w from (q + 1) =
          append_assoc d p (x ∷ []) ∙ ap (λ (l : List ℕ). d ++ l) (ap (λ (z : ℕ). p ++ z ∷ []) word
          ∙ sym (piece_more w from q)) in (
            step.0 ∙ (same.0 ∙ old.0),
            step.1 ∙ (same.1 ∙ old.1),
            step.2 ∙ (ap (λ (m : Mine).
                (record m.0 { pool = record m.0.pool { draft = m.0.pool.draft ++ x ∷ [] } }, m.1)) now
                ∙ ap (λ (l : List ℕ). (record a.0 { pool = record a.0.pool { draft = l } }, a.1)) more),
          );
    }

pub returns : goal.returns
returns c =
    let end = c.loop-q.auto.q-end in
    let over = c.loop-q-test.false in
    let all : c.loop-q.q ≡ c.args.count = omega arith in
    record { copied = λ j from first inside. rw (← all) (c.loop-q.invariant.copied j from first inside) }
