use Rattle.snap_laws.proofs.Premises.{heard, heard_on_sockets, first_heard}
use Rattle.snap_laws.proofs.clients.heard_laws.Goals as goal

pub returns-clause-heard : goal.returns-clause-heard
returns-clause-heard c = heard

pub returns-clause-first : goal.returns-clause-first
returns-clause-first c = first_heard

pub returns-clause-sockets : goal.returns-clause-sockets
returns-clause-sockets c = heard_on_sockets
