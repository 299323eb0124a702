use Rattle.snap_laws.proofs.Workers.{of_scanner, worker_told}
use Rattle.snap_laws.proofs.clients.worker_laws.Goals as goal

pub returns-clause-session : goal.returns-clause-session
returns-clause-session g c = of_scanner _ _ (λ a b q r is. is.0)

pub returns-clause-told : goal.returns-clause-told
returns-clause-told g c = worker_told _ _ (λ a b q r is. is.0)
