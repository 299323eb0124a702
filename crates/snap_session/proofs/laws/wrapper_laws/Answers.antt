use Rattle.snap_session.proofs.Wrapped.{alone, shared}
use Rattle.snap_session.proofs.laws.wrapper_laws.Goals as goal

pub returns-clause-alone : goal.returns-clause-alone
returns-clause-alone g c = alone g.S.Service.gives g.T.Service.gives

pub returns-clause-shared : goal.returns-clause-shared
returns-clause-shared g c = shared g.S.Service.gives g.T.Service.gives
