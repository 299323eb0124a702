use Rattle.std.proofs.Common.{of_calls, arith, ◌≡◌, ◌-◌, ◌^◌, suc, inl, refl}
use Rattle.snap_client.proofs.Tries.{tries_last, tries_next}
use Rattle.snap_client.proofs.again.call_while.Goals as goal

pub returns-in-Ok : goal.returns-in-Ok
returns-in-Ok g c = (
  1,
  c.try_once.new.connect,
  tries_last (goal.F-step g) _ _ _ c.args.connect.now c.try_once.new.connect _ c.in-Ok.ensures,
  inl (tt, refl),
)

pub loop-left-init : goal.loop-left-init
loop-left-init g c = record {
  callable = search of_calls;
  within = omega arith;
  tried = tries_last (goal.F-step g) _ _ _ c.args.connect.now c.try_once.new.connect _ c.in-Err.ensures;
}

pub returns-in-Ok-try_once : goal.returns-in-Ok-try_once
returns-in-Ok-try_once g c =
    let may = c.may_pass.ensures.0 c.if-not-may_pass.false in
    let made = 2 ^ 64 - c.loop-left.left in (
      suc made,
      c.try_once-in-loop-left.new.connect,
      tries_next _ _ _ _ made (suc made) _ _ _ c.loop-left.fault _ refl
          c.loop-left.invariant.tried may c.in-Ok-try_once.ensures,
      inl (tt, refl),
    )

pub loop-left-preserved : goal.loop-left-preserved
loop-left-preserved g c =
    let may = c.may_pass.ensures.0 c.if-not-may_pass.false in
    let made = 2 ^ 64 - c.loop-left.left in
    let one_more : suc made ≡ 2 ^ 64 - (c.loop-left.left - 1) =
    omega (arith, c.loop-left-test.true, c.loop-left.invariant.within) in
    record {
      callable = search of_calls;
      within = omega (arith, c.loop-left.invariant.within);
      tried = tries_next _ _ _ _ made _ _ _ _ c.loop-left.fault _ one_more
          c.loop-left.invariant.tried may c.in-Err-try_once.ensures;
    }
