-- A worker's connections are sessions on the service inside its own.
use Rattle.std.proofs.Common.{None}
use Rattle.snap_frame.specs.declared.{request.Request.Request, reply.Reply.Reply}
use Rattle.snap_session.{specs.Talk.start, specs.Wrapped.AnswersAs, proofs.Wrapped.moves_as, proofs.Wrapped.shared}
use Rattle.snap_server.specs.SharedService.{InnerLaw}

pub inner : {S T : Type 0} (outer : S → Request → Reply → S → Type 0) (gives : T → Request → Reply → T → Type 0)
    (f : S → T) → AnswersAs f outer gives → InnerLaw f outer gives
inner outer gives f answers t connections are = record {
  first = f are.first;
  moves = moves_as outer gives f answers are.first t are.moves;
  each = λ key c there. (shared outer gives f answers are.first t start c.session None None None None
      (are.each key c there)).0;
}
