use Rattle.std.proofs.Common.{◌≡◌, ℕ, length, ap, sym, ◌∙◌}
use Rattle.std.proofs.{lemmas.List.length-replicate}
use Rattle.snap_disk.specs.{Image.image_device, Laws.part_whole}
use Rattle.snap_slot.proofs.{Blank.fresh_rests}
use Rattle.snap_world.proofs.drive.Drive.format.Goals as goal

pub returns : goal.returns
returns c =
    let zero_byte : ℕ = 0 in
    let written = image_device c.put.new.self in
    let file = c.encode_fresh_file.new.file in
    let size : length written.bytes ≡ 28672 = c.put.ensures.touched.bytes_elsewhere.size
    ∙ ap length c.in_ok-image.ensures.bytes ∙ length-replicate 28672 zero_byte in
    let same : written.bytes ≡ file =
    sym (part_whole (length file) written.bytes (size ∙ sym c.encode_fresh_file.array_long)) ∙ c.put.ensures.stands in
    record {
      rest = fresh_rests c.args.index c.args.count c.requires.below c.requires.few
          (image_device c.settle.new.self) c.settle.ensures.settled (c.settle.ensures.same ∙ same
          ∙ c.encode_fresh_file.ensures);
      slot = c.begin.ensures.slot ∙ c.slot_of.ensures;
      stage = c.begin.ensures.stage;
    }
