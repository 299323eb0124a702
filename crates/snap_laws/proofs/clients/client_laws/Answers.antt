use Rattle.snap_laws.proofs.ClientAnswers.{answered_stands}
use Rattle.snap_laws.proofs.clients.client_laws.Goals as goal

pub returns : goal.returns
returns g c = answered_stands g.R.Read.remaining g.W.Write.contents
