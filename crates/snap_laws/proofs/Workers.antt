-- Sessions on a service that answers as a scanner does.
use Rattle.std.proofs.Common.{refl}
use Rattle.snap_register.specs.{Seat.Known}
use Rattle.snap_frame.specs.declared.{request.Request.Request, reply.Reply.Reply}
use Rattle.snap_session.{specs.Talk.start, specs.Wrapped.AnswersAs, proofs.Wrapped.shared}
use Rattle.snap_service.specs.Answers.{Answers}
use Rattle.snap_laws.{specs.Worker.OfScannerLaw, specs.Worker.WorkerLaw, proofs.Runs.session_told}

module _ {S : Type 0} (gives : S → Request → Reply → S → Type 0) (scanner : S → Known)
    (answers : AnswersAs scanner gives Answers) where
  pub of_scanner : OfScannerLaw gives scanner
  of_scanner first now r0 r1 w0 w1 talk on =
      let is = shared gives Answers scanner answers first now start talk r0 r1 w0 w1 on in record {
        served = record {
          began = scanner first;
          talk = talk;
          read_old = r0;
          read_new = r1;
          written_old = w0;
          written_new = w1;
          turns = is.0;
        };
        talk_is = refl;
        taken_is = is.1.taken;
        given_is = is.1.given;
        requests_are = is.1.payloads;
        replies_are = is.1.replies;
        unsaid_are = is.1.unsaid;
      }

  pub worker_told : WorkerLaw gives scanner
  worker_told first now r0 r1 w0 w1 talk on h seen =
      let is = of_scanner first now r0 r1 w0 w1 talk on in
      rw (is.requests_are, is.replies_are, is.unsaid_are) at (session_told (scanner now) is.served h seen)
