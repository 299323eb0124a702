use Rattle.std.proofs.Common.{rules, inr, length, refl, [], ◌∷◌, ◌++◌, take, sym, subst}
use Rattle.snap_world.proofs.Fills.{any_crash_of, any_fault_of, crash_inside_any_write_of}
use Rattle.snap_world.proofs.Runs.{IsRun-append, IsRun-grows, IsRun-same, take-event}
use Rattle.std.proofs.{lemmas.Option.slice_get_read}
use Rattle.snap_world.specs.{Surface.IsRun, Surface.phases_of, NodePhases.NeedsMemory}
use Rattle.snap_world.proofs.world.World.run.Goals as goal

pub returns-in-Err-clause-grows : goal.returns-in-Err-clause-grows
returns-in-Err-clause-grows c = IsRun-grows c.args.self.now c.step.new.self _ _
    (IsRun-same c.args.self.now c.loop-i.self c.step.new.self _ _ c.in-Err.ensures.err c.loop-i.invariant.run)

pub loop-i-preserved : goal.loop-i-preserved
loop-i-preserved c =
    let old = c.args.self.now in
    let events = c.args.events.now in
    let i = c.loop-i.i in
    let event = c.index-events-i.result in
    let more = IsRun-append old c.loop-i.self c.step.new.self (take i events) c.loop-i.replies.items
    (event ∷ []) (c.in-Ok.reply ∷ []) c.loop-i.invariant.run c.in-Ok.ensures.run in
    let all = subst (λ e. IsRun old e (c.loop-i.replies.items ++ c.in-Ok.reply ∷ []) c.step.new.self)
    (take-event events i event c.loop-i-test.true c.index-events-i.is) more in search rules

pub returns-clause-grows : goal.returns-clause-grows
returns-clause-grows c = IsRun-grows c.args.self.now c.loop-i.self _ _ c.loop-i.invariant.run

pub returns-in-Err-clause-memory : goal.returns-in-Err-clause-memory
returns-in-Err-clause-memory c =
    let events = c.args.events.now in
    let event = c.index-events-i.result in inr (
      event,
      slice_get_read events (length events) c.loop-i.i event refl c.loop-i-test.true c.index-events-i.is,
      subst (λ w. NeedsMemory (phases_of w) event) (sym c.in-Err.ensures.err) c.in-Err.ensures.memory,
    )

pub returns-in-Err-clause-any_crash : goal.returns-in-Err-clause-any_crash
returns-in-Err-clause-any_crash c = any_crash_of c.step.new.self

pub returns-in-Err-clause-crash_inside_any_write : goal.returns-in-Err-clause-crash_inside_any_write
returns-in-Err-clause-crash_inside_any_write c = crash_inside_any_write_of c.step.new.self

pub returns-in-Err-clause-any_fault : goal.returns-in-Err-clause-any_fault
returns-in-Err-clause-any_fault c = any_fault_of c.step.new.self

pub returns-clause-any_crash : goal.returns-clause-any_crash
returns-clause-any_crash c = any_crash_of c.loop-i.self

pub returns-clause-crash_inside_any_write : goal.returns-clause-crash_inside_any_write
returns-clause-crash_inside_any_write c = crash_inside_any_write_of c.loop-i.self

pub returns-clause-any_fault : goal.returns-clause-any_fault
returns-clause-any_fault c = any_fault_of c.loop-i.self
