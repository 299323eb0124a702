use Rattle.snap_service.specs.Job.{job_of}
use Rattle.snap_service.proofs.desk.DeskService.answer.Given as goal

abbrev pub ghosts-ask : goal.ghosts-ask
ghosts-ask g a = record { job = job_of a.outbox.now.worker a.key a.segment a.number a.value.now }
