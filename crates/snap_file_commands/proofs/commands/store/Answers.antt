use Rattle.std.proofs.Common.{rules, arith, ap, Err}
use Rattle.std.proofs.{KnownBytes.Keeps-refl, lemmas.Result.err_from_is_err_and}
use Rattle.snap_file_commands.proofs.{Refused.refused_store, Stored.stored}
use Rattle.snap_file_commands.proofs.commands.store.Goals as goal

pub returns-in_err-store-clause-ends : goal.returns-in_err-store-clause-ends
returns-in_err-store-clause-ends g c = λ file holds.
    let segment = c.args.segment.now in
    let last = c.store.new.self.device in
    let out = g.W.Write.contents c.args.writer.now in
    let answer = c.in_err-store.ensures in
    let p = err_from_is_err_and c.from_residual-in_err-store.result c.from_residual-in_err-store.ensures.1 in
    rw (p.1, p.2) (refused_store (g.D.Disk.is_honest last) segment.index segment.count
    c.args.value.now file (g.D.Disk.device last) out out c.in_err-store.field-0.0 answer.refusals
    (λ e. let long = answer.too_long.0 (ap Err e) in omega (arith, long, c.requires.fits))
    (λ e. let fenced = rw c.requires.unfenced at (answer.fenced.0 (ap Err e)).1 in cc)
    (λ e honest. let is = holds (answer.honest honest) in
    (is.head, (segment.value, rw (answer.exhausted.0 (ap Err e)).2 at is.holds))) (Keeps-refl out))

pub returns-in-Ok-clause-ends : goal.returns-in-Ok-clause-ends
returns-in-Ok-clause-ends g c = λ file holds.
    let answer = c.in_ok-store.ensures in
    let k = c.args.segment.now.number in
    let same = c.number.ensures.number in
    (k, search rules, (λ h. stored (holds (answer.honest h)) (answer.last h)), rw (← same) (search rules))

pub returns-clause-ends : goal.returns-clause-ends
returns-clause-ends g c = λ file holds.
    let answer = c.in_ok-store.ensures in
    let k = c.args.segment.now.number in
    let same = c.number.ensures.number in
    (k, search rules, (λ h. stored (holds (answer.honest h)) (answer.last h)), rw (← same) (search rules))
