-- How a worker ends.
use Rattle.std.specs.Prelude.{◌≡◌, false}
use Rattle.slab.specs.Slab.{slab_len}
use Rattle.snap_frame.specs.declared.{request.Request.Request, reply.Reply.Reply}
use Rattle.snap_session.specs.{Talk.Moves, declared.service.Service.Ghosts}
use Rattle.snap_server.specs.declared.worker.Worker.{Worker}

-- The worker took connections until no more would arrive. None of them is left, and its service has changed by answered
-- requests alone.
pub record HasServed {S O : Type 0} {service : Ghosts S O}
    (gives : S → Request → Reply → S → Type 0) (old new : Worker S O service) : Type 0 where
  pub closed : new.is_open ≡ false
  pub none : slab_len new.sessions.connections ≡ 0
  pub moves : Moves gives old.sessions.service new.sessions.service
