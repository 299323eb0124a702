use Rattle.std.proofs.lemmas.Option.{slice_get-get_or}
use Rattle.snap_server.proofs.dispatcher.Dispatcher.first_idle.Goals as goal

pub returns-then-is_idle : goal.returns-then-is_idle
returns-then-is_idle g c = (
  c.loop-at.at,
  slice_get-get_or c.args.self.now.senders.now _ _ c.loop-at-test.true,
  c.is_idle.ensures c.if-is_idle.true,
)
