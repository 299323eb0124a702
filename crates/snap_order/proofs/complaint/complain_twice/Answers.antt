use Rattle.std.proofs.Common.{◌≡◌, ◌∙◌, List, ℕ, IfSome, string_bytes, String, Global, sym, subst, Option}
use Rattle.std.{specs.Io.KnownBytes.Appends, proofs.KnownBytes.Appends-trans}
use Rattle.snap_order.specs.Streams.{AppendsBeginning, refused_line}
use Rattle.snap_order.proofs.Lines.{beginning_more, whole_more, beginning_behind, on_ok}
use Rattle.snap_order.proofs.complaint.complain_twice.Goals as goal

pub returns-then-not-complain_of_refusal-clause-says : goal.returns-then-not-complain_of_refusal-clause-says
returns-then-not-complain_of_refusal-clause-says g c = λ line is. (
  beginning_more _ _ (refused_line c.args.why) line c.complain_of_refusal.ensures.beginning,
  (λ whole. absurd (cc)),
)

pub returns-in-Some-clause-says : goal.returns-in-Some-clause-says
returns-in-Some-clause-says g c = λ line is.
    let old = g.E.Write.contents c.args.errors.now in
    let mid = g.E.Write.contents c.complain_of_refusal.new.errors in
    let new = g.E.Write.contents c.write_whole.new.writer in
    let first = refused_line c.args.why in
    let same : string_bytes c.in-Some.line ≡ line =
    subst (λ (o : Option (String Global)). IfSome o (λ m. string_bytes m ≡ line)) c.in-Some.is is in
    let bytes : c.as_bytes.result.now ≡ line = c.as_bytes.ensures.value ∙ same in
    let came : Appends old mid first = c.complain_of_refusal.ensures.whole c.if-not-complain_of_refusal.false in (
      beginning_behind old mid new first line came
          (subst (λ (l : List ℕ). AppendsBeginning mid new l) bytes c.write_whole.ensures.beginning),
      (λ told. Appends-trans old mid new first line came (subst (λ (l : List ℕ). Appends mid new l) bytes
          (on_ok c.write_whole.result _ c.write_whole.ensures.whole (sym c.is_ok.ensures.value ∙ told)))),
    )

pub returns-in-None-clause-says : goal.returns-in-None-clause-says
returns-in-None-clause-says g c = λ line is. (
  whole_more _ _ (refused_line c.args.why) line
      (c.complain_of_refusal.ensures.whole c.if-not-complain_of_refusal.false),
  (λ told. absurd (cc)),
)
