use Rattle.std.proofs.Common.{rules, ◌-◌, ◌≡◌, ◌<◌, refl, ap, ◌∙◌, arith, get_or, set}
use Rattle.atomic_table.specs.Seated.{TableId}
use Rattle.snap_register.{specs.Registers.Mine, specs.Steps.view_of, proofs.Keeps.gives_back}
use Rattle.snap_register.proofs.{Later.seated_bare, Later.sized_still, access.Access.give_back.Goals.After-fetch_add}
use Rattle.snap_register.proofs.access.Access.give_back.Goals as goal

pub fetch_add-requires : goal.fetch_add-requires
fetch_add-requires c =
    let me = c.args.self.now in
    let own : me.seat.table_id ≡ c.deref.result.now.shared.table_id = search rules in
    let pin = me.seated.pins_are c.args.j c.requires in
    let wp = me.seated.wide_pins in
    let some : 0 < get_or me.pins c.args.j 0 = search rules in (
      own,
      rw (← own) c.given-at.ensures.1,
      gives_back (Unit {0}) _ _ _ me.seat.me _ c.args.j
          (get_or me.pins c.args.j 0 - 1) me.seated.here c.requires (omega arith) (omega arith) c.given-at.ensures.0,
    )

is_bare : (c : After-fetch_add) → c.fetch_add.new.seat.me ≡ (
  record (view_of c.args.self.now) { pins = set (view_of c.args.self.now).pins c.args.j 0 },
  c.args.self.now.seat.me.1,
)
is_bare c =
    let me = c.args.self.now in
    let pin = me.seated.pins_are c.args.j c.requires in
    let few = me.seated.pins_inside c.args.j c.requires in
    let some : 0 < get_or me.pins c.args.j 0 = search rules in
    c.fetch_add.ensures.2 c.args.j (get_or me.pins c.args.j 0 - 1) (omega arith) c.given-at.ensures.0

pub invariant_of-self : goal.invariant_of-self
invariant_of-self c =
    let me = c.args.self.now in
    let is = is_bare c in
    record {
      own = c.fetch_add.ensures.0 ∙ me.own;
      sized = sized_still me (ap (λ (m : Mine). m.0.plan) is);
      seated = seated_bare me.seated c.args.j c.requires (search rules)
          (ap (λ (t : TableId). t.words) c.fetch_add.ensures.0) is;
    }

pub returns-then-self-j-gt0 : goal.returns-then-self-j-gt0
returns-then-self-j-gt0 c = (
  refl,
  c.fetch_add.ensures.0,
  c.fetch_add.ensures.1,
  is_bare (goal.at.returns-then-self-j-gt0 c).After-fetch_add,
)
