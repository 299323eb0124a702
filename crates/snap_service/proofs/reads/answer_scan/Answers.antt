use Rattle.std.proofs.Common.{◌^◌, ◌<◌, map, refl, sym, subst, ◌∙◌}
use Rattle.snap_register.specs.{declared.plan.Plan.Plan, Rule.segments}
use Rattle.snap_scan.specs.Values.{pair_of}
use Rattle.snap_memory.specs.Scans.{IsPart, MayRefuse, TakesLooksOf}
use Rattle.snap_memory.proofs.ScanAnswer.{snapshot_listed, all_set, all_is, all_count, all_grown, all_same}
use Rattle.snap_service.proofs.Lines.{listed}
use Rattle.snap_service.proofs.reads.answer_scan.Goals as goal

pub scan-requires : goal.scan-requires
scan-requires c =
    record { set = all_set _ _ _ c.segments.ensures.count c.all-all.ensures.all c.segments.ensures.some.0 }

pub returns-in-Ok-clause-answer : goal.returns-in-Ok-clause-answer
returns-in-Ok-clause-answer c =
    let a = c.args.scanner.now in
    let b = c.scan.new.self in
    let seen = c.in-Ok.ensures.seen in
    let count = c.segments.ensures.count in
    let few = c.segments.ensures.some.1 in
    let values = map pair_of c.in-Ok.values.items in (
      snapshot_listed a b (all_grown a b seen _ count few) values
          (subst (λ v. IsPart v a b values) (all_is a _ _ count
          c.all-all.ensures.all ∙ all_same a b seen) c.in-Ok.ensures.part),
      (seen, subst (λ n. TakesLooksOf n a b) (all_count a _ _ count c.all-all.ensures.all few) c.in-Ok.ensures.left),
    )

pub returns-in-Ok-clause-limits : goal.returns-in-Ok-clause-limits
returns-in-Ok-clause-limits c =
    let a = c.args.scanner.now in
    let b = c.scan.new.self in
    let seen = c.in-Ok.ensures.seen in
    let set = all_set a _ _ c.segments.ensures.count c.all-all.ensures.all c.segments.ensures.some.0 in
    listed _ a b (subst (λ (p : Plan). c.all-all.result.bits < 2 ^ segments p) (sym seen.plan) set.among)
    c.in-Ok.ensures.below _ (all_grown a b seen _ c.segments.ensures.count c.segments.ensures.some.1) set.some
    c.in-Ok.ensures.part c.in-Ok.ensures.short

pub returns-in-Err-clause-answer : goal.returns-in-Err-clause-answer
returns-in-Err-clause-answer c =
    let a = c.args.scanner.now in (
      refl,
      subst (λ n. MayRefuse n a c.in-Err.why c.scan.new.self) (all_count a _ _ c.segments.ensures.count
          c.all-all.ensures.all c.segments.ensures.some.1) c.in-Err.ensures.refused,
    )
