use Rattle.snap_server.proofs.Inner.{inner}
use Rattle.snap_server.proofs.gate.gate_laws.Goals as goal

pub returns : goal.returns
returns g c = inner _ _ _ (λ a b q r is. is)
