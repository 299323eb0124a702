use Rattle.std.{specs.Int.w64, specs.Int.to_le_bytes, proofs.lemmas.Slice.take-put_mid}
use Rattle.std.proofs.Common.{rules, ◌≡◌, ℕ, ◌+◌, ◌-◌, ◌≤◌, ◌*◌, ◌++◌, List, length, get_or, ap, sym, ◌∙◌, arith}
use Rattle.snap_register.proofs.{Blocks.bytes_more, Spots.lies_more, words.copy_value.Goals.In-loop-q}
use Rattle.snap_register.specs.{Registers.Mine, Held.held, Steps.LiesAt}
use Rattle.snap_register.proofs.words.copy_value.Goals as goal

-- the place of the value's next word
lies : (c : In-loop-q) (j at : ℕ) → LiesAt c.args.seat.now.me.0 j at c.args.place
    → at + 2 + c.args.count ≤ length (held c.args.seat.now.me.0 j)
    → LiesAt c.loop-q.seat.me.0 j (at + 2 + c.loop-q.q) (c.args.place + 2 + c.loop-q.q)
lies c j at lies' inside =
    let q : ℕ = c.loop-q.q in
    let place : ℕ = c.args.place in
    let lt = c.loop-q-test.true in
    rw c.loop-q.invariant.me (lies_more c.args.seat.now.me.0 j at (2 + q) (at + 2 + q) place
    (place + 2 + q) lies' (omega arith) (omega arith) (omega arith))

pub load_word-word-requires : goal.load_word-word-requires
load_word-word-requires c =
    let inv = c.loop-q.invariant in
    let block = c.requires.block in
    let seated = c.requires.seated in
    record {
      own = inv.table ∙ c.requires.own;
      seated = (seated.0, seated.1, rw (inv.me, inv.table) seated.2);
      place = (
        block.0,
        block.1 + 2 + c.loop-q.q,
        lies (goal.at.load_word-word-requires c).In-loop-q block.0 block.1 block.2 block.3,
      );
    }

pub loop-q-preserved : goal.loop-q-preserved
loop-q-preserved c =
    let a = c.args.seat.now.me in
    let q : ℕ = c.loop-q.q in
    let long : length c.copy_from_slice.new.self ≡ 8 = omega (arith, c.copy_from_slice.ensures.len) in
    let same = c.load_word-word.ensures.same in
    let inv = c.loop-q.invariant in
    record {
      table = same.0 ∙ inv.table;
      id = same.1 ∙ inv.id;
      me = same.2 ∙ inv.me;
      long = search rules;
      bytes = λ j at lies' inside.
          let w : List ℕ = held a.0 j in
          let from : ℕ = at + 2 in
          let word : c.load_word-word.result ≡ get_or w (from + q) 0 =
          c.load_word-word.ensures.word j (from + q) (lies (goal.at.loop-q-preserved c).In-loop-q j at lies' inside)
          ∙ ap (λ (m : Mine). get_or (held m.0 j) (from + q) 0) inv.me in
          let bytes : c.copy_from_slice.new.self ≡ to_le_bytes w64 (get_or w (from + q) 0) =
          c.copy_from_slice.ensures.after ∙ (c.to_le_bytes.ensures ∙ ap (to_le_bytes w64) word) in
          take-put_mid (8 * q) (8 * q + 8 - 8 * q) c.loop-q.out c.copy_from_slice.new.self
          (8 * (q + 1)) (omega arith) (omega arith)
          ∙ ((λ i. inv.bytes j at lies' inside i ++ bytes i) ∙ sym (bytes_more w from q));
    }
