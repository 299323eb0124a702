use Rattle.std.proofs.Common.{◌-◌, arith, get_or}
use Rattle.snap_register.{proofs.Keeps.reads, proofs.Spots.lies_inside}
use Rattle.snap_register.proofs.words.load_word.Goals as goal

pub load-requires : goal.load-requires
load-requires c =
    let s = c.args.seat.now in
    let at = c.requires.place in
    let seated = c.requires.seated.2 in (
      c.requires.own,
      rw (← c.requires.own) (lies_inside seated at.2),
      reads (Unit {0}) _ _ _ _ _ seated.here,
    )

pub returns-clause-word : goal.returns-clause-word
returns-clause-word c = λ j q lies.
    let m = c.args.seat.now.me in
    let seated = c.requires.seated.2 in
    let at = lies.pinned.0 in
    c.load.ensures.2.2 j (get_or m.0.pins j 0 - 1) q lies.is at
    (omega (arith, lies.inside, (seated.readable j at).fits)) (omega (arith, lies.pinned.1))
    (seated.records_are j at) lies.inside
