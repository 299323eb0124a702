use Rattle.std.proofs.Common.{◌≡◌, Ok, Err, IfOk, OnErr, sym, subst}
use Rattle.std.proofs.{Math.Logic.∥∥₁_map}
use Rattle.snap_world.specs.{inside.NodeStands.NodeStand, inside.NodeSteps.IsNodeStep}
use Rattle.snap_world.proofs.world.World.step.Goals as goal

pub invariant_of-self : goal.invariant_of-self
invariant_of-self c =
    let old = c.args.self.now.node in
    let new = c.step.new.self in
    let was : NodeStand old = c.args.self.now.stands in record {
      stands = elim c.step.result as (λ r. IfOk r (λ reply. IsNodeStep old c.args.event.now reply new)
          → OnErr r (new ≡ old) → NodeStand new) [
            | Ok reply ↦ (λ s e. ∥∥₁_map was (λ q. (let y = s.step q.0 q.1 in (y.0, y.3))))
            | Err error ↦ (λ s e. subst NodeStand (sym e) was)
          ] c.step.ensures.step c.step.ensures.err;
    }
