use Rattle.snap_laws.proofs.Between.{no_more_goes_on, load_end}
use Rattle.snap_laws.proofs.crashes.load_between.Goals as goal

pub returns-clause-made : goal.returns-clause-made
returns-clause-made g c = load_end g.D.Disk _ _ _ _ _ _ _ c.load.ensures.ends

pub returns-clause-spared : goal.returns-clause-spared
returns-clause-spared g c = λ formatted hon. no_more_goes_on g.D.Disk g.met.D.Disk.counts_now _ _ _ _ hon
    (c.load.ensures.spared formatted)
