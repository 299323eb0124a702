use Rattle.std.proofs.Common.{inr, of_calls, subst}
use Rattle.snap_client.specs.Calls.{Calls}
use Rattle.snap_client.proofs.again.try_once.Goals as goal

pub returns : goal.returns
returns g c = inr (
  c.in-Some.reader,
  c.in-Some.writer,
  c.call.new.self,
  search of_calls,
  subst (λ s. Calls g.R.Read.remaining g.W.Write.contents c.args.request.now s c.call.result
      c.call.new.self) c.new-client.ensures c.call.ensures,
)
