use Rattle.std.proofs.Common.{of_calls, arith, sym, ◌∙◌, true≢false}
use Rattle.snap_client.proofs.Tries.{tries_ended, tries_on}
use Rattle.snap_client.proofs.again.call_again.Goals as goal

pub try_once-requires-clause-callable : goal.try_once-requires-clause-callable
try_once-requires-clause-callable g c = c.loop-left.invariant.callable

pub returns-in-Ok : goal.returns-in-Ok
returns-in-Ok g c =
    c.loop-left.invariant.rest _ _
    (tries_ended _ _ _ _ c.loop-left.left _ _ _ c.loop-left.invariant.some c.in-Ok.ensures tt)

pub returns-in-Err-2 : goal.returns-in-Err-2
returns-in-Err-2 g c =
    c.loop-left.invariant.rest _ _
    (tries_ended _ _ _ _ c.loop-left.left _ _ _ c.loop-left.invariant.some c.in-Err.ensures
    (λ may. absurd (true≢false (sym (c.may_pass.ensures.1 may) ∙ c.if-may_pass.false))))

pub loop-left-preserved : goal.loop-left-preserved
loop-left-preserved g c =
    let may = c.may_pass.ensures.0 c.if-may_pass.true in
    record {
      callable = search of_calls;
      some = omega (arith, c.loop-left-test.true);
      rest = λ result last done. c.loop-left.invariant.rest result last
          (tries_on _ _ _ _ c.loop-left.left _ _ last c.in-Err.fault result
          c.loop-left.invariant.some c.in-Err.ensures may done);
    }

pub try_once-requires-2-clause-callable : goal.try_once-requires-2-clause-callable
try_once-requires-2-clause-callable g c = c.loop-left.invariant.callable
