use Rattle.std.proofs.{Common.[], Common.refl, Common.arith, lemmas.List.Elements.All-nil}
use Rattle.snap_script.proofs.Steps.{done_none}
use Rattle.snap_script.proofs.line_buffer.LineBuffer.new.Goals as goal

pub returns : goal.returns
returns c = λ old. record {
  done = [];
  whole = rw c.new-2.ensures.items refl;
  is_line = rw c.new-2.ensures.items (All-nil _, omega arith);
  has_done = done_none c.new.ensures;
}
