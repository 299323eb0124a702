use Rattle.std.proofs.{Common.◌≡◌}
use Rattle.snap_world.specs.inside.Fresh.{IsHalted, IsScannerHalted}
use Rattle.snap_world.proofs.{Sweep.Swept}
use Rattle.snap_world.proofs.actors.Actors.halt.Given as goal

abbrev pub invariant-writers : goal.invariant-writers
invariant-writers l = record {
  segments : l.self.segments ≡ l.fn.self.segments;
  registers : l.self.registers ≡ l.fn.self.registers;
  scanners : l.self.scanners ≡ l.fn.self.scanners;
  swept : Swept (λ i. IsHalted) l.i l.fn.self.writers.items l.self.writers.items;
}

abbrev pub invariant-scanners : goal.invariant-scanners
invariant-scanners l = record {
  segments : l.self.segments ≡ l.fn.self.segments;
  registers : l.self.registers ≡ l.fn.self.registers;
  writers : l.self.writers ≡ l.initial.self.writers;
  swept : Swept (λ i. IsScannerHalted) l.i l.initial.self.scanners.items l.self.scanners.items;
}
