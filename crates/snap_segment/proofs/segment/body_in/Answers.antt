use Rattle.std.proofs.Common.{◌≡◌, ◌+◌, ◌-◌, ℕ, take, drop, ◌∙◌, ap, arith}
use Rattle.snap_disk.specs.Device.{part}
use Rattle.snap_slot.specs.declared.layout.TheConstants.{BLOCK_LEN}
use Rattle.snap_segment.proofs.segment.body_in.Goals as goal

pub returns-clause-block : goal.returns-clause-block
unfolding part
returns-clause-block c =
    let at = c.body_at-at.result in
    let whole : at + BLOCK_LEN - at ≡ BLOCK_LEN = omega arith in
    ap (λ (n : ℕ). take n (drop at c.args.file.now)) whole
    ∙ ap (λ (k : ℕ). take BLOCK_LEN (drop k c.args.file.now)) c.body_at-at.ensures
