use Rattle.snap_world.{specs.inside.Recovery.IsResumed, proofs.Sweep.Swept}
use Rattle.snap_world.proofs.drive.resume_all.Given as goal

abbrev pub invariant-loop-i : goal.invariant-loop-i
invariant-loop-i l = Swept (λ i. IsResumed) l.i l.initial.drives.items l.drives.items
