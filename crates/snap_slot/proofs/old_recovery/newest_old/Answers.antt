use Rattle.std.proofs.Common.{⊎_elim, arith}
use Rattle.snap_slot.proofs.OldNewest.{held_answers}
use Rattle.snap_slot.proofs.old_recovery.newest_old.Goals as goal

pub returns-in_default : goal.returns-in_default
returns-in_default c b first second k v is =
    ⊎_elim (λ l. grind arith) (λ l. grind arith) (held_answers b c.args.first c.args.second first second k v is)

pub returns-in_default-2 : goal.returns-in_default-2
returns-in_default-2 c b first second k v is =
    ⊎_elim (λ l. grind arith) (λ l. grind arith) (held_answers b c.args.first c.args.second first second k v is)

pub returns-in_default-3 : goal.returns-in_default-3
returns-in_default-3 c b first second k v is =
    ⊎_elim (λ l. grind arith) (λ l. grind arith) (held_answers b c.args.first c.args.second first second k v is)

pub returns-in_default-4 : goal.returns-in_default-4
returns-in_default-4 c b first second k v is =
    ⊎_elim (λ l. grind arith) (λ l. grind arith) (held_answers b c.args.first c.args.second first second k v is)
