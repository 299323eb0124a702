-- One more image in the past of a device.
use Rattle.std.proofs.Common.{◌≡◌, inl, inr, ⊎_elim, List, ◌∷◌, length, arith}
use Rattle.snap_disk.specs.{Device.Device, Device.Elapses, Image.image_device, declared.image.Image.Image}
use Rattle.snap_devices.specs.Past.{LeftFrom}

pub elapses_then : (image : Image) (past past' : List Image) (new : Device) → past' ≡ image ∷ past
    → Elapses (length past) (length past') (LeftFrom (image_device image) past) (LeftFrom new past') new
elapses_then image past past' new is = rw is record {
  later = omega arith;
  nothing_else = λ t b le left. ⊎_elim (λ now. inr now.1) (λ past. inl past) left;
  keeps = λ t b le past. inr past;
}
