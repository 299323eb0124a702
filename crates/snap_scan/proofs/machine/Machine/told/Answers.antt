use Rattle.std.proofs.Common.{true, false, arith}
use Rattle.snap_scan.proofs.Kept.{close, StandsFor-borrow, StandsFor-next_segment, StandsFor-end_collect, turn_fits}
use Rattle.snap_scan.proofs.machine.Machine.told.Goals as goal

pub has_moved_twice-requires : goal.has_moved_twice-requires
has_moved_twice-requires c =
    (turn_fits c.args.self.now c.args.segment c.args.number c.requires.turn c.requires.stands).2

pub overflow_add-self : goal.overflow_add-self
overflow_add-self c = omega (
  arith,
  (turn_fits c.args.self.now c.args.segment c.args.number c.requires.turn c.requires.stands).1,
)

pub returns-then-has_moved_twice-clause-told : goal.returns-then-has_moved_twice-clause-told
returns-then-has_moved_twice-clause-told c = λ told st.
    let moved = c.has_moved_twice.ensures.0 c.if-has_moved_twice.true in
    StandsFor-borrow c.args.self.now told c.args.segment c.args.number st c.requires.turn moved.0
    moved.1

pub keep-requires : goal.keep-requires
keep-requires c =
    let fits = turn_fits c.args.self.now c.args.segment c.args.number c.requires.turn c.requires.stands in
    record { place = fits.0; headroom = omega (arith, fits.1) }

pub overflow_add-segment : goal.overflow_add-segment
overflow_add-segment c = omega (
  arith,
  (turn_fits c.args.self.now c.args.segment c.args.number c.requires.turn c.requires.stands).0,
)

pub returns-then-segment-self-clause-told : goal.returns-then-segment-self-clause-told
returns-then-segment-self-clause-told c = λ told st.
    let s = c.args.self.now in
    let near = close s c.args.segment c.args.number c.has_moved_twice.result
    c.if-has_moved_twice.false c.has_moved_twice.ensures in
    rw c.keep.ensures (StandsFor-next_segment s told c.args.segment c.args.number st c.requires.turn
    c.requires.stands near (rw c.keep.ensures at c.if-segment-self.true))

pub returns-then-self-clause-told : goal.returns-then-self-clause-told
returns-then-self-clause-told c = λ told st.
    let s = c.args.self.now in
    let near = close s c.args.segment c.args.number c.has_moved_twice.result
    c.if-has_moved_twice.false c.has_moved_twice.ensures in
    rw c.keep.ensures (StandsFor-end_collect s told c.args.segment c.args.number st c.requires.turn c.requires.stands
    near (rw c.keep.ensures at c.if-segment-self.false) true (rw c.keep.ensures at c.if-self.true))

pub returns-else-self-clause-told : goal.returns-else-self-clause-told
returns-else-self-clause-told c = λ told st.
    let s = c.args.self.now in
    let near = close s c.args.segment c.args.number c.has_moved_twice.result
    c.if-has_moved_twice.false c.has_moved_twice.ensures in
    rw c.keep.ensures (StandsFor-end_collect s told c.args.segment c.args.number st c.requires.turn c.requires.stands
    near (rw c.keep.ensures at c.if-segment-self.false) false (rw c.keep.ensures at c.if-self.false))
