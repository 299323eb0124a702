-- The identity of registers, and their state between two steps.
use Rattle.std.specs.Prelude.{[]}
use Rattle.atomic_table.specs.{Seated.TableId, Table.State, Table.Me}
use Rattle.snap_register.specs.declared.plan.SeatView.{SeatView}

-- the registers of one opening
abbrev pub RegistersId : Type 0
RegistersId = TableId

-- a value for the case that there are no registers
abbrev pub no_registers : RegistersId
no_registers = record {
  words = 0;
  slots = 0;
  views_name = 0;
  atom = 0;
  block = 0;
  offset = 0;
  slot_names = [];
}

-- what a seat knows; it holds no slots
abbrev pub Mine : Type 0
Mine = Me (Unit {0}) SeatView

-- the registers between two steps: their words, and what each seat knows
abbrev pub Moment : Type 0
Moment = State (Unit {0}) SeatView
