use Rattle.std.proofs.{Common.rules, Common.length, Common.ap, Common.◌∙◌, Math.Logic.∥∥₁_elim, Props.props}
use Rattle.snap_slot.proofs.Whole.{not_refused}
use Rattle.snap_world.proofs.drive.Drive.read.Goals as goal

pub recover-requires : goal.recover-requires
recover-requires c = ap length c.bytes.ensures ∙ ∥∥₁_elim c.requires (hlevel props) (λ q. q.2.size)

pub unreachable-requires : goal.unreachable-requires
unreachable-requires c = ∥∥₁_elim c.requires (hlevel props) (search (rules, not_refused))
