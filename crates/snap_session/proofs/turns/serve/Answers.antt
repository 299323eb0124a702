use Rattle.snap_session.proofs.TurnRuns.{begins, then_turns, serves}
use Rattle.snap_session.proofs.turns.serve.Goals as goal
use Rattle.snap_session.specs.Talk.{Talk, start}
use Rattle.std.proofs.Common.{ap}

pub loop-init : goal.loop-init
loop-init g c = (
  (tt, tt),
  rw c.new-session.ensures (begins g.S.Service.gives _ start _ _),
  ap (λ (z : Talk). z.asked) c.new-session.ensures,
)

pub loop-preserved : goal.loop-preserved
loop-preserved g c = (
  (tt, tt),
  then_turns g.S.Service.gives _ _ _ _ _ _ _ _ _ _ _ _ c.loop.invariant.1 c.proceed.ensures.goes,
  c.proceed.ensures.free c.requires.alone c.loop.invariant.2,
)

pub returns-in-NeedsInput : goal.returns-in-NeedsInput
returns-in-NeedsInput g c =
    serves g.S.Service.gives _ _ _ _ _ _ _ _ _ _ _ _ c.loop.invariant.1 c.proceed.ensures.goes
    c.in-NeedsInput.ensures.stands

pub returns-in-NeedsRoom : goal.returns-in-NeedsRoom
returns-in-NeedsRoom g c =
    serves g.S.Service.gives _ _ _ _ _ _ _ _ _ _ _ _ c.loop.invariant.1 c.proceed.ensures.goes
    c.in-NeedsRoom.ensures.stands

pub returns-in-Over : goal.returns-in-Over
returns-in-Over g c =
    serves g.S.Service.gives _ _ _ _ _ _ _ _ _ _ _ _ c.loop.invariant.1 c.proceed.ensures.goes c.in-Over.ensures.stands
