-- How a server's result follows from its opening.
use Rattle.std.proofs.Common.{◌≡◌, ℕ, List, map, length, Option, Err, refl, sym, ◌∙◌}
use Rattle.std.proofs.lemmas.Simd.{map-map}
use Rattle.snap_history.specs.Pairs.{Pairs}
use Rattle.snap_writer.specs.Writer.{WriterState}
use Rattle.snap_restart.specs.{Opened.IsOpened, Opened.recovered, Crash.AreOpened, declared.report.Report.Report}
use Rattle.snap_serve.specs.declared.fault.HostFault.TheVariants.{Refused}
use Rattle.snap_serve.specs.Serve.{End, EndsHost, EndsServing, IsReportOf, Site}
use Rattle.snap_disk.specs.declared.disk.Disk as Disk

pub ends_opened : {D L : Type 0} (disk : Disk.Ghosts D) (devices : List D) (site : Site L)
    (connections : Option ℕ) (r : Report) (o n : Option (List ℕ)) (end : End)
    → IsReportOf disk devices r → EndsServing site connections r o n end
    → EndsHost disk devices site connections o n end
ends_opened disk devices site connections r o n (Err (Refused segment why len)) is ends = absurd ends
ends_opened disk devices site connections r o n end is ends = (r, is, ends)

pub reported : {D : Type 0} (disk : Disk.Ghosts D) (devices : List D) (writers : List (WriterState D)) (r : Report)
    → Pairs (IsOpened disk (length devices)) devices (map (λ w. w.segment) writers)
    → r.segments.items ≡ map (λ w. recovered w.segment) writers → AreOpened disk devices writers
    → IsReportOf disk devices r
reported disk devices writers r opened says crash = record {
  segments = map (λ w. w.segment) writers;
  opened = opened;
  says = says ∙ sym (map-map recovered (λ w. w.segment) writers);
  writers = writers;
  theirs = refl;
  crash = crash;
}
