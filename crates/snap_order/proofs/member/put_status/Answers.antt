use Rattle.snap_order.proofs.Growth.{wrote, wrote_last}
use Rattle.snap_order.proofs.member.put_status.Goals as goal

pub returns-clause-tokens : goal.returns-clause-tokens
returns-clause-tokens c =
    let old = c.args.writer.now.tokens in
    let name = wrote old _ _ _ _ c.in_ok-put_head.ensures.tokens c.in_ok-key.ensures.ok in
    let fence = wrote old _ _ _ _ name c.in_ok-boolean.ensures.ok in
    wrote_last c.end_object.result old _ _ _ _ fence c.end_object.ensures.ok
