use Rattle.std.proofs.Common.{rules}
use Rattle.snap_slot.proofs.Blocks.{one_open_bytes}
use Rattle.snap_slot.proofs.fresh.put_slots.Goals as goal

pub returns : goal.returns
returns c = search (rules, one_open_bytes)
