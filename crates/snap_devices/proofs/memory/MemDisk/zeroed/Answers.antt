use Rattle.std.proofs.Common.{sym, subst}
use Rattle.snap_disk.specs.Device.{Device, IsSettled}
use Rattle.snap_devices.proofs.memory.MemDisk.zeroed.Goals as goal

pub returns-clause-settled : goal.returns-clause-settled
returns-clause-settled c =
    let P : Device → Type 0 = λ device. IsSettled device in
    subst P (sym c.new-2.ensures.device) c.in_ok-image.ensures.settled
