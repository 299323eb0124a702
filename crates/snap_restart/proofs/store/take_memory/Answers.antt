use Rattle.std.proofs.Common.{length, ap, ◌∙◌, arith}
use Rattle.std.proofs.lemmas.List.{length-map}
use Rattle.snap_restart.proofs.store.take_memory.Goals as goal

pub returns : goal.returns
returns g c =
    let seats = c.in_ok-parts.ensures in
    let values = c.deref.ensures.value in
    let is = c.in_ok-values_of.ensures.contents in
    record {
      counts = (seats.writers ∙ (ap length values ∙ simp length-map at (ap length is)), seats.scanners);
      seats = rw (values, is) at seats.seats;
      writers = (c.in_ok-places.ensures.items, omega (arith, c.in_ok-places.ensures.capacity));
      scanners = (c.in_ok-scanners.ensures.items, c.in_ok-scanners.ensures.capacity);
      report = c.in_ok-report_of.ensures;
    }
