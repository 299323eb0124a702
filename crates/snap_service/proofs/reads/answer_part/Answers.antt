use Rattle.std.proofs.Common.{◌^◌, ◌<◌, sym, subst}
use Rattle.snap_register.specs.{declared.plan.Plan.Plan, Rule.segments}
use Rattle.snap_memory.{specs.Scans.IsPart, proofs.ScanAnswer.all_grown}
use Rattle.snap_service.proofs.Lines.{named_listed, short_as}
use Rattle.snap_service.proofs.reads.answer_part.Goals as goal

pub returns-in-Ok-listed-clause-limits : goal.returns-in-Ok-listed-clause-limits
returns-in-Ok-listed-clause-limits c =
    let a = c.args.scanner.now in
    let b = c.scan.new.self in
    let set = c.args.set.bits in
    let seen = c.in-Ok.ensures.seen in
    let count = c.segments-segments.ensures.count in
    let list = c.in-Ok-listed.values.items in
    let same = c.in-Ok-listed.ensures.values in
    named_listed set a b
    (subst (λ (p : Plan). set < 2 ^ segments p) (sym seen.plan) (subst (λ n. set < 2 ^ n) count
    (c.is_among.ensures.below.0 c.if-not-is_among.false))) c.in-Ok.ensures.below list
    (all_grown a b seen c.segments-segments.result count c.segments-segments.ensures.some.1) c.requires.some
    (subst (IsPart set a b) (sym same) c.in-Ok.ensures.part) c.in-Ok-listed.ensures.segments
    (short_as list c.in-Ok.values.items same c.in-Ok.ensures.short)
