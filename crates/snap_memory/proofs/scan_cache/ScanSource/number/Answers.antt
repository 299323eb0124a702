use Rattle.std.proofs.Common.{[], ap, sym, subst, ◌∙◌}
use Rattle.std.proofs.lemmas.Option.{slice_get-get_or}
use Rattle.snap_memory.specs.ScanCaches.{HasPlace, number_of}
use Rattle.snap_memory.proofs.scan_cache.ScanSource.number.Goals as goal

pub returns-in-Viewed : goal.returns-in-Viewed
returns-in-Viewed c =
    let place = subst (λ v. HasPlace v c.args.i) c.in-Viewed.is c.requires.place in
    c.number.ensures _ (slice_get-get_or c.in-Viewed.view.now c.args.i (0, []) place)
    ∙ ap (λ v. number_of v c.args.i) (sym c.in-Viewed.is)
