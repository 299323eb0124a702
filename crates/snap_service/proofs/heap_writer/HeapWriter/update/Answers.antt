use Rattle.std.proofs.Common.{◌≡◌, sym, subst, ◌∙◌}
use Rattle.snap_memory.specs.Seat.{own_of}
use Rattle.snap_service.specs.{Asked.StoresAsked, Memory.IsOf, Writer.WriterState}
use Rattle.snap_service.proofs.{Asked.asked_update, Told.tellable}
use Rattle.snap_service.proofs.heap_writer.HeapWriter.update.Goals as goal

pub invariant_of-self : goal.invariant_of-self
invariant_of-self g c =
    let asked = g.M.Memory.asked in
    let same = sym c.as_mut.ensures.value in
    let Of : WriterState _ → Type 0 = λ w. IsOf g.M.Memory.table g.M.Memory.plan w.seat in
    let Stores : WriterState _ → Type 0 = λ w. StoresAsked asked w in
    let Writes : WriterState _ → Type 0 = λ w. own_of w.seat ≡ c.self.inside.segment in
    let Asks : WriterState _ → Type 0 = λ w. asked (own_of w.seat) c.args.number c.args.value.now in
    let is_of = subst Of same c.self.invariant.0 in
    let asks = subst Asks (sym c.self.view_is ∙ same) c.requires.asked in
    let done = c.update-told.ensures.updated in
    let shown = c.update-told.ensures.shown in (
      record {
        table_is = done.same_seat.table ∙ is_of.table_is;
        plan_is = done.same_seat.plan ∙ is_of.plan_is;
      },
      asked_update asked c.as_mut.result.now c.update-told.new.self c.args.number c.args.value.now asks
          (subst Stores same c.self.invariant.1) g.D.Disk c.update-told.result c.update-told.ensures.low shown.0.0 done,
      done.same_seat.low ∙ subst Writes same c.self.invariant.2,
    )

pub returns-clause-tellable : goal.returns-clause-tellable
returns-clause-tellable g c =
    let u = c.update-told.ensures in
    tellable _ _ _ _ u.low g.D.Disk _ u.updated u.shown c.requires.size
