use Rattle.std.proofs.Common.{refl, Some, Ok, Err}
use Rattle.snap_client.{specs.Calls.client_of, proofs.Replies.has_called}
use Rattle.snap_client.proofs.client.Client.call.Goals as goal

pub returns-in-Ok : goal.returns-in-Ok
returns-in-Ok g c =
    let fault = c.self.inside.fault in
    has_called g.R.Read.remaining g.W.Write.contents c.args.request.now c.args.self.now
    c.self.inside.reader c.self.inside.writer c.self.inside.feed.bytes
    (client_of c.exchange.new.reader c.exchange.new.writer c.exchange.new.feed.bytes fault) fault
    (Ok c.in-Ok.reply) c.self.view_is c.in_default.is (c.in-Ok.ensures.reaches fault)
    c.in_default.is

pub returns-in-Err : goal.returns-in-Err
returns-in-Err g c =
    let fault = Some c.in-Err.fault in
    has_called g.R.Read.remaining g.W.Write.contents c.args.request.now c.args.self.now
    c.self.inside.reader c.self.inside.writer c.self.inside.feed.bytes
    (client_of c.exchange.new.reader c.exchange.new.writer c.exchange.new.feed.bytes fault)
    c.self.inside.fault (Err c.in-Err.fault) c.self.view_is c.in_default.is
    (c.in-Err.ensures.reaches fault) refl
