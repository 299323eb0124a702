use Rattle.std.proofs.{lemmas.Grind.common_steps, Common.arith}
use Rattle.snap_frame.proofs.Behind.{values_apart, statuses_apart}
use Rattle.snap_frame.proofs.reply.read_reply.Goals as goal

pub read_list-requires : goal.read_list-requires
read_list-requires c = record { apart = values_apart }

pub read_list-requires-in-Some-eq131 : goal.read_list-requires-in-Some-eq131
read_list-requires-in-Some-eq131 c = record { apart = statuses_apart }

pub returns-in-Some-eq224-clause-reply : goal.returns-in-Some-eq224-clause-reply
returns-in-Some-eq224-clause-reply c = grind (arith, common_steps)

pub returns-in-Some-eq129-clause-reply : goal.returns-in-Some-eq129-clause-reply
returns-in-Some-eq129-clause-reply c = grind (arith, common_steps)
