use Rattle.std.proofs.Common.{rules, ◌≡◌, []}
use Rattle.std.specs.Io.KnownBytes.{Appends}
use Rattle.snap_frame.specs.Messages.{payload, frame}
use Rattle.snap_client.{specs.Calls.Answers, proofs.Replies.heard_fault, proofs.Replies.heard_other}
use Rattle.snap_client.proofs.exchange.exchange.Goals as goal

pub returns-then-not-answers-clause-reaches : goal.returns-then-not-answers-clause-reaches
returns-then-not-answers-clause-reaches g c fault =
    let silent : c.args.feed.now.bytes ≡ [] = search rules in
    let wrote : Appends (g.W.Write.contents c.args.writer.now)
    (g.W.Write.contents c.send.new.writer) (frame (payload c.args.request.now)) = search rules in
    let other : Answers c.args.request.now c.in-Ok.reply → ⊥ = search rules in
    heard_other g.R.Read.remaining g.W.Write.contents c.args.request.now c.args.reader.now
    c.hear.new.reader c.args.writer.now c.send.new.writer c.args.feed.now.bytes c.hear.new.feed
    silent wrote fault c.in-Ok.reply other c.in-Ok.ensures

pub returns-in-Err-clause-reaches : goal.returns-in-Err-clause-reaches
returns-in-Err-clause-reaches g c fault =
    let silent : c.args.feed.now.bytes ≡ [] = search rules in
    let wrote : Appends (g.W.Write.contents c.args.writer.now)
    (g.W.Write.contents c.send.new.writer) (frame (payload c.args.request.now)) = search rules in
    heard_fault g.R.Read.remaining g.W.Write.contents c.args.request.now c.args.reader.now
    c.hear.new.reader c.args.writer.now c.send.new.writer c.args.feed.now.bytes c.hear.new.feed
    silent wrote fault c.in-Err.fault c.in-Err.ensures
