use Rattle.std.{specs.Prelude.replicate, proofs.lemmas.List.drop-replicate, proofs.lemmas.Slice.drop-put_mid}
use Rattle.std.proofs.Common.{◌≡◌, ℕ, length, drop, ap, ◌∙◌, arith}
use Rattle.snap_register.proofs.words.tail_word.Goals as goal

pub returns-clause-zeros : goal.returns-clause-zeros
returns-clause-zeros c =
    let n : ℕ = length c.args.bytes.now in
    ap (drop n) c.word_of.ensures
    ∙ (drop-put_mid 0 _ (replicate 8 0) c.copy_from_slice.new.self n (omega arith) (omega arith)
    (let e : length c.copy_from_slice.new.self ≡ n =
    ap length c.copy_from_slice.ensures.after in omega arith) ∙ drop-replicate n 8 0)
