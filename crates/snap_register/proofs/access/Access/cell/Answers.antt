use Rattle.std.proofs.Common.{refl, ℕ}
use Rattle.snap_register.{specs.Steps.view_of, proofs.Places.cell_inside}
use Rattle.snap_register.proofs.access.Access.cell.Goals as goal

pub returns : goal.returns
returns c =
    let me = c.args.self.now in
    let p = (view_of me).plan in
    let q : ℕ = c.args.q in
    let inside = cell_inside p c.args.i c.args.b q c.requires.0 c.requires.1 c.requires.2 in
    rw (me.sized.segments_are, c.buffers-buffers.ensures, c.width-width.ensures, me.seated.words_are) (refl, inside)
