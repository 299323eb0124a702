use Rattle.snap_laws.proofs.Between.{cut_off_goes_on}
use Rattle.snap_laws.proofs.crashes.store_between.Goals as goal

pub returns : goal.returns
returns g c = cut_off_goes_on g.D.Disk c.args.value.now c.args.segment.now c.store.new.self c.store.ensures.honest
    c.requires.rests (λ hon. c.store.ensures.any_time hon c.requires.unfenced)
