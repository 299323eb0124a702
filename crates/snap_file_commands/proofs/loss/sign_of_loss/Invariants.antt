use Rattle.std.proofs.Common.{◌≡◌, All, take}
use Rattle.snap_file_commands.proofs.loss.sign_of_loss.Given as goal

-- the numbers so far are 0
abbrev pub invariant-loop-at : goal.invariant-loop-at
invariant-loop-at l = All (λ number. number ≡ 0) (take l.at l.numbers)
