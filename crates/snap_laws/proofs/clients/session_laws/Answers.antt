use Rattle.snap_laws.proofs.Runs.{session_told}
use Rattle.snap_laws.proofs.clients.session_laws.Goals as goal

pub returns : goal.returns
returns c = session_told
