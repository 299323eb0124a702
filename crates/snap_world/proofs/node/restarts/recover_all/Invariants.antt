use Rattle.std.proofs.Common.{◌≡◌, Some, slice_get}
use Rattle.snap_world.{specs.inside.Recovery.IsRecovered, specs.declared.drive.Drive.Drive, proofs.Sweep.Swept}
use Rattle.snap_world.proofs.node.restarts.recover_all.Given as goal

abbrev pub invariant-loop-i : goal.invariant-loop-i
invariant-loop-i l = Swept (λ i r s. (d : Drive) → slice_get l.drives.items i ≡ Some d
    → IsRecovered d r s) l.i l.initial.registers.items l.registers.items
