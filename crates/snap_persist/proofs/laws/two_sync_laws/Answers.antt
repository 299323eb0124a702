use Rattle.snap_persist.proofs.ClosedGate.{waiting_leaves}
use Rattle.snap_persist.proofs.laws.two_sync_laws.Goals as goal

pub returns-clause-closing_shares_the_sync : goal.returns-clause-closing_shares_the_sync
returns-clause-closing_shares_the_sync c i n k u d ready b left = waiting_leaves i n k u d ready b left
