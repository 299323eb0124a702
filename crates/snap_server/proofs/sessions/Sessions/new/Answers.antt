use Rattle.std.proofs.Common.{None, ap, slice_index_or}
use Rattle.std.proofs.lemmas.Grind.{merely}
use Rattle.snap_server.proofs.{SharedService.none_are, TurnList.none_list}
use Rattle.snap_server.proofs.sessions.Sessions.new.Goals as goal

pub invariant_of-result-clause-are : goal.invariant_of-result-clause-are
invariant_of-result-clause-are g c = merely (none_are g.S.Service.gives c.args.service c.new.result
    (λ key. ap (λ slots. slice_index_or slots key None) c.new.ensures.empty))

pub invariant_of-result-clause-lists : goal.invariant_of-result-clause-lists
invariant_of-result-clause-lists g c = merely (rw c.new-2.ensures.items (none_list c.new.result
    (λ key. ap (λ slots. slice_index_or slots key None) c.new.ensures.empty)))
