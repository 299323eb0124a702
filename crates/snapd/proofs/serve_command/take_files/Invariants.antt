use Rattle.std.proofs.Common.{◌≡◌, ◌≤◌, length, All}
use Rattle.std.specs.Prelude.{vec_capacity}
use Rattle.snap_devices.specs.FileDisk.{IsUncalled}
use Rattle.snapd.proofs.serve_command.take_files.Given as goal

abbrev pub invariant-files : goal.invariant-files
invariant-files l = record {
  count : length l.devices.items ≡ l.file-index;
  room : length l.files.items ≤ vec_capacity l.devices;
  uncalled : All IsUncalled l.devices.items;
}
