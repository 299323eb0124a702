-- After an update and a meeting the seats still belong together.
use Rattle.std.proofs.Common.{arith}
use Rattle.snap_register.specs.Seat.{Known, AreTogether}
use Rattle.snap_writer.specs.{Writer.WriterState, Update.IsSameSeat}
use Rattle.snap_service.specs.Updated.{HasMet}

pub still_together : {D : Type 0} (s : Known) (w0 w1 : WriterState D) → AreTogether s w0.seat
    → IsSameSeat w0.seat w1.seat → AreTogether s w1.seat
still_together s w0 w1 t same = grind arith

pub still_seated : {D : Type 0} (w0 w1 w2 : WriterState D) → IsSameSeat w0.seat w1.seat
    → HasMet w1 w2 → IsSameSeat w0.seat w2.seat
still_seated w0 w1 w2 same met = grind arith
