use Rattle.std.proofs.Common.{[], refl}
use Rattle.snap_server.proofs.worker.Worker.read_messages.Goals as goal

pub returns-in-Ok-Close : goal.returns-in-Ok-Close
returns-in-Ok-Close g c = record { moves = ([], [], refl) }

pub returns-in-Ok-Stop : goal.returns-in-Ok-Stop
returns-in-Ok-Stop g c = record { moves = ([], [], refl) }

pub returns-in-Err : goal.returns-in-Err
returns-in-Err g c = record { moves = ([], [], refl) }
