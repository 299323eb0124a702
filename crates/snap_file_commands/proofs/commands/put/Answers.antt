use Rattle.std.proofs.{Common.rules, Common.take, Common.ap, Common.◌∙◌, Common.Err, Common.inl, KnownBytes.Keeps-refl}
use Rattle.snap_disk.specs.Laws.{started, weaker}
use Rattle.snap_order.proofs.Known.{had}
use Rattle.snap_file_commands.proofs.{Refused.put_keeps, Refused.refused_open, Stored.held, Stored.put_leaves}
use Rattle.snap_file_commands.{proofs.Stored.store_ends_put, specs.declared.fault.CommandFault.TheVariants.Refused}
use Rattle.snap_file_commands.proofs.commands.put.Goals as goal

pub returns-in-Err-open-clause-ends : goal.returns-in-Err-open-clause-ends
returns-in-Err-open-clause-ends g c =
    let device = g.D.Disk.device in
    let honest = g.D.Disk.is_honest c.in-Err-open.disk in
    let out = g.W.Write.contents c.args.writer.now in
    let came = c.in-Ok.ensures in
    let answer = c.in-Err-open.ensures in
    let why = c.in-Err-open.why in
    let v = take c.in-Ok.len c.read_up_to.new.buffer in
    store_ends_put honest c.args.index c.args.count (g.R.Read.remaining c.args.reader.now) v (device c.args.disk)
    (device c.in-Err-open.disk) out out (Err (Refused why)) (had _ _ v came.came (came.ended (search rules)))
    (refused_open honest c.args.index c.args.count v (device c.args.disk) (device c.in-Err-open.disk) out out why
    answer.refusals answer.refused (Keeps-refl out))

pub returns-in-Err-clause-any_time : goal.returns-in-Err-clause-any_time
returns-in-Err-clause-any_time g c = λ honest. started _ _ _ (λ b left. inl (g.met.D.Disk.only_now _ b honest left))

pub returns-then-len-gt-MAX_VALUE_LEN-clause-any_time : goal.returns-then-len-gt-MAX_VALUE_LEN-clause-any_time
returns-then-len-gt-MAX_VALUE_LEN-clause-any_time g c = λ honest.
    started _ _ _ (λ b left. inl (g.met.D.Disk.only_now _ b honest left))

pub returns-in-Err-open-clause-any_time : goal.returns-in-Err-open-clause-any_time
returns-in-Err-open-clause-any_time g c = λ honest.
    weaker _ _ _ _ _ (c.in-Err-open.ensures.any_time_err honest) (λ b left. inl left)

pub returns-clause-ends : goal.returns-clause-ends
returns-clause-ends g c =
    let device = g.D.Disk.device c.args.disk in
    let came = c.in-Ok.ensures in
    let segment = c.in-Ok-open.segment in
    let opened = c.in-Ok-open.ensures in
    let ends = c.store-end.ensures.ends device (λ honest. held c.args.index c.args.count
    segment.index segment.count segment.number segment.value device.bytes
    opened.opened.0 opened.opened.1 opened.file_length (opened.holds honest)) in
    rw c.into_device.ensures.device (store_ends_put _ _ _ _ _ _ _ _ _ c.store-end.result
    (had _ _ _ came.came (came.ended (search rules))) (rw (opened.opened.0, opened.opened.1) at ends))

pub returns-clause-keeps : goal.returns-clause-keeps
returns-clause-keeps g c =
    let device = g.D.Disk.device c.args.disk in
    let segment = c.in-Ok-open.segment in
    let opened = c.in-Ok-open.ensures in
    put_keeps _ _ _ _ _ _ _ _ _ _ _ c.store-end.result (λ same honest.
    let is = c.into_device.ensures.device ∙ ap (λ s. s.device) same in
    rw is (opened.any_time_ok (rw is at honest)))
    (c.store-end.ensures.ends device (λ honest. held c.args.index c.args.count
    segment.index segment.count segment.number segment.value device.bytes opened.opened.0 opened.opened.1
    opened.file_length (opened.holds honest))) c.store-end.ensures.keeps

pub returns-clause-any_time : goal.returns-clause-any_time
returns-clause-any_time g c = λ honest.
    let came = c.in-Ok.ensures in
    let segment = c.in-Ok-open.segment in
    let opened = c.in-Ok-open.ensures in
    let is_honest = rw c.into_device.ensures.device at honest in
    let was_honest = c.store-end.ensures.honest is_honest in
    rw c.into_device.ensures.device (put_leaves g.D.Disk
    (g.D.Disk.is_honest c.store-end.new.segment.device) c.args.disk segment c.store-end.new.segment
    (g.D.Disk.device c.args.disk) _ c.args.index c.args.count _ is_honest opened.opened.0
    opened.opened.1 (had _ _ _ came.came (came.ended (search rules))) (opened.holds was_honest)
    (opened.any_time_ok was_honest) c.store-end.ensures.any_time)
