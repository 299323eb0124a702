use Rattle.std.proofs.{Common.◌∙◌, Common.rules, lemmas.Result.on_ok_weaker}
use Rattle.snap_slot.proofs.Blank.{prepared}
use Rattle.snap_segment.proofs.creation.write_front.Goals as goal

pub returns-clause-prepared : goal.returns-clause-prepared
returns-clause-prepared g c honest =
    let second = c.sync.ensures.honest honest in
    on_ok_weaker c.sync.result (prepared c.args.index c.args.count c.args.number c.args.value.now
    c.encode_header.new.front c.encode_slots.new.slots (g.D.Disk.device c.write_at.new.self)
    (g.D.Disk.device c.write_at-2.new.self) (g.D.Disk.device c.sync.new.self) c.requires.fits (c.write_at-2.ensures.size
    ∙ c.write_at.ensures.size ∙ c.requires.size) c.encode_header.ensures c.encode_header.array_long
    c.encode_slots.ensures (c.in_ok-write_at.ensures.stands (c.write_at-2.ensures.honest second))
    (rw c.gate_at.ensures at (c.write_at-2.ensures.left second))
    (rw c.gate_at.ensures at (c.in_ok-write_at-2.ensures.stands second))) (c.sync.ensures.synced honest)

pub returns-clause-leaves : goal.returns-clause-leaves
returns-clause-leaves g c honest settled closed = record { any_time = search rules; now = search rules }
