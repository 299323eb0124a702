use Rattle.std.proofs.Common.{rules, ◌≡◌, ℕ, ◌+◌, ◌*◌, ◌/◌, ◌≤◌, List, length, take, ap, sym, ◌∙◌, arith}
use Rattle.std.proofs.lemmas.List.{take-take}
use Rattle.snap_register.{specs.Registers.Mine, proofs.access.Access.read_value.Goals.After-read-length}
use Rattle.snap_register.specs.{Words.bytes_at, Words.length_at, Words.words_for, Steps.view_of, Steps.LiesAt}
use Rattle.snap_register.specs.Held.{held}
use Rattle.snap_register.proofs.access.Access.read_value.Goals as goal

-- the place of the block
lies : (c : After-read-length) → LiesAt (view_of c.read-length.new.self) c.args.j c.args.at c.place-place.result
lies c = rw c.read-length.ensures.same.2 c.place-place.ensures.place

-- the value is within the record
fits : (c : After-read-length) → c.args.at + 2 + (c.read-length.result + 7) / 8
    ≤ length (held (view_of c.read-length.new.self) c.args.j)
fits c = rw c.read-length.ensures.same.2 (omega (arith, c.read-length.ensures.word, c.requires.block.inside))

pub copy_value-requires : goal.copy_value-requires
copy_value-requires c =
    let b = c.read-length.new.self in
    let e = (goal.at.copy_value-requires c).After-read-length in
    let inside = rw c.read-length.ensures.same.2 at (fits e) in
    record {
      own = search rules;
      seated = (b.pins, b.left, b.seated);
      block = (c.args.j, c.args.at, lies e, fits e);
      fits = omega (arith, inside, c.place-place.ensures.fits);
      room = omega (arith, c.requires.room, c.read-length.ensures.word);
    }

pub returns-clause-value : goal.returns-clause-value
returns-clause-value c =
    let e = (goal.at.returns-clause-value c).After-read-length in
    let w : List ℕ = held (view_of c.args.self.now) c.args.j in
    let n : ℕ = c.read-length.result in
    let told : n ≡ length_at w c.args.at = c.read-length.ensures.word in
    let all : List ℕ = c.copy_value.new.out in
    let bytes : take (8 * ((n + 7) / 8)) all ≡ bytes_at w (c.args.at + 2) ((n + 7) / 8) =
    c.copy_value.ensures.bytes c.args.j c.args.at (lies e) (fits e) ∙ ap (λ (m : Mine). bytes_at
    (held m.0 c.args.j) (c.args.at + 2) ((n + 7) / 8)) c.read-length.ensures.same.2 in
    sym (take-take n (8 * ((n + 7) / 8)) all (omega arith)) ∙ (ap (take n) bytes
    ∙ ap (λ (z : ℕ). take z (bytes_at w (c.args.at + 2) (words_for z))) told)
