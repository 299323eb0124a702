use Rattle.std.proofs.Common.{rules, ◌≡◌, None, subst}
use Rattle.std.specs.Result.{IfErr}
use Rattle.snap_disk.specs.declared.refusal.Refusal.TheVariants.{DeviceFailed}
use Rattle.snap_segment.specs.Segment.{SegmentState}
use Rattle.snap_writer.specs.Update.{HasStored}
use Rattle.snap_writer.proofs.noted_segment.NotedSegment.store.Goals as goal

pub returns : goal.returns
returns g c =
    let e = c.store.ensures in
    let s = c.self.inside.segment in
    let told = c.store.result in
    let unfenced : s.begun ≡ None = search rules in
    let only : IfErr told (λ why. why ≡ DeviceFailed) = search rules in
    record {
      stored = subst (λ (s : SegmentState _). HasStored g.D.Disk s c.store.new.self c.args.value.now told)
          c.self.view_is (record {
            count = e.count;
            calls = e.calls;
            honest_then = e.honest;
            ok = e.ok;
            failed = search rules;
            any_time = λ honest. e.any_time honest unfenced;
            last = e.last;
            either = λ honest. search rules;
          });
    }
