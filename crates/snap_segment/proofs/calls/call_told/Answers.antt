use Rattle.std.proofs.Common.{rules}
use Rattle.snap_segment.proofs.StoreCalls.{before, made, made_leaves, missed}
use Rattle.snap_segment.proofs.Leaves.{one}
use Rattle.snap_segment.proofs.calls.call_told.Goals as goal

pub returns-in-Ok-clause-leaves : goal.returns-in-Ok-clause-leaves
returns-in-Ok-clause-leaves g c honest i n k u v laid is = one g.D.Disk (λ b. g.met.D.Disk.only_now c.args.device.now b
    (c.make_call.ensures.honest honest)) (before i n u _ _ laid is) (c.make_call.ensures.time honest) (made_leaves i n u
    _ _ laid is _ c.args.slot c.args.call c.requires.asked c.requires.into (c.in-Ok.ensures.made honest))

pub returns-in-Err-clause-leaves : goal.returns-in-Err-clause-leaves
returns-in-Err-clause-leaves g c honest i n k u v laid is = one g.D.Disk (λ b. g.met.D.Disk.only_now c.args.device.now b
    (c.make_call.ensures.honest honest)) (before i n u _ _ laid is) (c.make_call.ensures.time honest) (missed i n u _ _
    laid is _ c.args.slot c.args.call c.requires.asked c.requires.into (c.in-Err.ensures.missed honest))

pub returns-in-Ok-clause-goes : goal.returns-in-Ok-clause-goes
returns-in-Ok-clause-goes g c honest i n k u v laid is = search (rules, made)
