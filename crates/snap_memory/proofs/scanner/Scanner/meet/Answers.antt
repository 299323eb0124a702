use Rattle.snap_memory.proofs.Kept.{fits_grown}
use Rattle.snap_memory.proofs.scanner.Scanner.meet.Goals as goal

pub invariant_of-self : goal.invariant_of-self
invariant_of-self c =
    fits_grown c.self.inside.seat c.meet.new.self c.self.inside.cache c.meet.ensures.scanner.grows c.self.invariant
