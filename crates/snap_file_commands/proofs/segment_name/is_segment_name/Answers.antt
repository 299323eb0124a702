use Rattle.std.proofs.{Common.◌∷◌, Common.[], Common.◌∙◌, lemmas.Bool.Decides.Decides-eqb, lemmas.Slice.Eq.ends_is}
use Rattle.snap_file_commands.proofs.segment_name.is_segment_name.Goals as goal

pub returns : goal.returns
returns c =
    let says = ends_is Decides-eqb c.as_bytes.result.now (46 ∷ 115 ∷ 101 ∷ 103 ∷ []) c.ends_with.result
    c.ends_with.ensures.value in (
      (λ ends. (_, rw c.as_bytes.ensures.value at (says.0 ends))),
      (λ (before, is). says.1 before (c.as_bytes.ensures.value ∙ is)),
    )
