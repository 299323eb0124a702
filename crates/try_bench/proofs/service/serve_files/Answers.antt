use Rattle.std.proofs.Common.{◌≡◌, ℕ, List, length, slice_get, Some, ap, sym, subst, ◌∙◌}
use Rattle.snap_history.proofs.Lists.{get-append_last}
use Rattle.snap_register.specs.{Rule.segments, Seat.Known}
use Rattle.snap_writer.specs.Writer.{WriterState}
use Rattle.snap_restart.specs.Closed.{AreBack}
use Rattle.snap_service.specs.Memory.{AreWriters}
use Rattle.try_bench.proofs.service.serve_files.Goals as goal

-- the writers and a scanner that were taken out of a store are of one memory
all_of : {D : Type 0} (ws : List (WriterState D)) (rs : List Known) (k : ℕ) (b : Known)
    → AreBack ws rs → slice_get rs k ≡ Some b → AreWriters b.table b.plan ws
all_of ws rs k b back at =
    let here = back.scanners_are k b at in
    record {
      all = back.all ∙ ap segments (sym here.plan_is);
      each = λ i w there. let is = back.writers_are i w there in (
        record {
          table_is = is.table_is ∙ sym here.table_is;
          plan_is = is.plan_is ∙ sym here.plan_is;
        },
        is.low_is,
      );
    }

pub serve_rounds-requires-clause-writers : goal.serve_rounds-requires-clause-writers
serve_rounds-requires-clause-writers g c =
    let store = c.in_ok-store.store in
    let parts = c.into_parts-writers.ensures in
    let left = c.pop.new.self.items in
    let s = c.in-Some.scanner in
    let at : slice_get store.scanners.items (length left) ≡ Some s =
    ap (λ (l : List Known). slice_get l (length left)) (sym parts.scanners ∙ c.in-Some.ensures.items)
    ∙ get-append_last left s in
    subst (λ (l : List (WriterState _)). AreWriters s.table s.plan l) (sym parts.writers)
    (all_of store.writers.items store.scanners.items (length left) s c.in_ok-store.ensures.back at)
