use Rattle.snap_order.proofs.Growth.{wrote, wrote_last}
use Rattle.snap_order.proofs.member.put_head.Goals as goal

pub returns-clause-tokens : goal.returns-clause-tokens
returns-clause-tokens c =
    let old = c.args.writer.now.tokens in
    let segment = wrote old _ _ _ _ c.in_ok-begin_object.ensures.ok c.in_ok-key.ensures.ok in
    let index = wrote old _ _ _ _ segment c.in_ok-u64.ensures.ok in
    let name = wrote old _ _ _ _ index c.in_ok-key-2.ensures.ok in
    wrote_last c.u64-2.result old _ _ _ _ name c.u64-2.ensures.ok
