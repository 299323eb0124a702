use Rattle.std.proofs.Common.{◌∙◌, sym}
use Rattle.snap_slot.{specs.declared.layout.TheConstants.OPEN_GATE, proofs.Blocks.gate_block-same}
use Rattle.snap_file_commands.proofs.slot_value.value_in.Goals as goal

-- it is read with an open gate
pub returns-in-Closed-clause-flaw : goal.returns-in-Closed-clause-flaw
returns-in-Closed-clause-flaw c =
    let closed = c.in-Closed.ensures in
    absurd (closed.closed (gate_block-same closed.gate OPEN_GATE (sym closed.is ∙ c.open_gate.ensures)))
