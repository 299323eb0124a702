use Rattle.snap_laws.proofs.Premises.{hears}
use Rattle.snap_laws.proofs.clients.hear.Goals as goal

pub returns : goal.returns
returns g c = hears g.R.Read.remaining g.W.Write.contents c.args.reader c.args.writer c.args.request.now c.call.result
    c.call.new.self c.requires.sendable (rw c.new-client.ensures at c.call.ensures)
