use Rattle.std.proofs.Common.{◌≡◌, ℕ, IfOk, IfErr, Some, not, true, sym, subst, ◌∙◌, refl}
use Rattle.std.specs.Prelude.{All}
use Rattle.snap_server.specs.Deals.{Deals}
use Rattle.snap_server.specs.declared.{fault.RunFault.TheVariants.Server, fault.ServerFault.TheVariants.AcceptFailed}
use Rattle.snap_server.proofs.Ended.{ended, ended_announced, ended_served, left_behind}
use Rattle.snap_server.proofs.server.fn.run_threads.scope.Goals.{then-is_told, else-is_told}
use Rattle.snap_server.proofs.server.fn.run_threads.scope.Goals as goal

pub returns : goal.returns
returns g c =
    let accepted = c.accept_announced-accepted.ensures in
    let r = c.accept_announced-accepted.result in
    let failed = not c.have_served.result in
    let Dealt : ℕ → g.row.L.Denot → Type 0 = λ k left. Deals g.L.Listen.accepts g.H.Deliver.takes g.H.Deliver.is_busy
    g.H.Deliver.was_idle c.captures.senders.now k c.captures.listener left in
    let worked : c.if-is_told.is_whole ≡ true → c.start_workers-is_worked.result ≡ true = elim c.if-is_told.branch [
      | then-is_told w ↦ λ whole. sym w.is_whole-is ∙ whole
      | else-is_told w ↦ λ whole. absurd cc
    ] in
    rw c.end_of.ensures (record {
      run = record {
        asked = ended (λ e. IfOk e (λ k. c.captures.limits-connections ≡ Some k)) r failed accepted.asked tt;
        deals = ended (λ e. IfOk e (λ k. (last : g.row.L.Denot) × Dealt k last)) r failed
            (left_behind Dealt r c.accept_announced-accepted.new.listener
            (rw c.new-dispatcher.ensures.senders at accepted.deals)) tt;
        served = ended_served (All g.K.Work.serves c.captures.workers.items) r c.have_served.result accepted.whole
            (λ whole yes. subst (All g.K.Work.serves) (c.start_workers-is_worked.ensures (worked whole))
            (c.have_served.ensures yes));
        deaf = ended (λ e. IfErr e (λ why. why ≡ Server AcceptFailed → g.L.Listen.refuses c.captures.listener)) r failed
            accepted.deaf (λ same. absurd cc);
        announced = ended_announced (g.A.Announce.announces c.captures.announce.now)
            (g.A.Announce.fails c.captures.announce.now) c.captures.to.now _ r failed accepted.announced;
      };
      same = refl;
    })
