use Rattle.std.proofs.Common.{◌≡◌, ℕ, ◌+◌, length, Some, slice_get, ap, sym, ◌∙◌, subst}
use Rattle.std.proofs.{lemmas.List.length_push}
use Rattle.snap_history.proofs.{Lists.get-push_at}
use Rattle.snap_world.specs.{declared.drive.Drive.Drive, inside.Drives.IsFormatted}
use Rattle.snap_world.proofs.drive.new_drives.Goals as goal

pub loop-i-preserved : goal.loop-i-preserved
loop-i-preserved c =
    let n = c.args.segments in
    let P : ℕ → Drive → Type 0 = λ j e. IsFormatted j n e in record {
      count = ap length c.in_ok-push.ensures.items ∙ length_push c.loop-i.drives.items _
          ∙ ap (λ k. k + 1) c.loop-i.invariant.count;
      each = λ i x e. get-push_at P c.loop-i.drives.items _ c.loop-i.invariant.each
          (subst (λ j. P j c.in_ok-format.field-0) (sym c.loop-i.invariant.count) c.in_ok-format.ensures) i x
          (subst (λ v. slice_get v i ≡ Some x) c.in_ok-push.ensures.items e);
    }
