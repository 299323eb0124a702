use Rattle.std.proofs.Common.{[], ap, refl, rules, subst, sym, ◌∙◌}
use Rattle.snap_session.{specs.Talk.Moves, proofs.Runs.moves_joins}
use Rattle.snap_server.specs.Work.{HasServed}
use Rattle.snap_server.proofs.worker.WorkerWork.work.Goals as goal

pub loop-init : goal.loop-init
loop-init g c = ([], [], refl)

pub loop-preserved : goal.loop-preserved
loop-preserved g c =
    let gives = g.S.Service.gives in
    let first = c.args.self.now.sessions.service in
    let told = moves_joins gives first c.loop.self.sessions.service c.read_messages.new.self.sessions.service
    c.loop.invariant (subst (λ s. Moves gives s c.read_messages.new.self.sessions.service)
    (c.list_ready.ensures.service ∙ ap (λ s. s.service) c.wait.ensures) c.read_messages.ensures.moves) in
    moves_joins gives first c.look_around.new.self.sessions.service c.serve_listed.new.self.sessions.service
    (subst (Moves gives first) (sym (c.look_around.ensures.service ∙ c.take_arrival.ensures.service)) told)
    c.serve_listed.ensures.moves

pub returns-then-not-self : goal.returns-then-not-self
returns-then-not-self g c =
    let served : HasServed g.S.Service.gives c.args.self.now c.loop.self =
    record { closed = search rules; none = search rules; moves = c.loop.invariant } in
    λ yes. (c.loop.self, served)
