use Rattle.std.proofs.Common.{rules, ◌≡◌, ℕ, ◌+◌, ◌-◌, ◌++◌, length, refl, ap, ◌∙◌}
use Rattle.atomic_table.specs.Seated.{TableId}
use Rattle.snap_register.specs.{Registers.Mine, Rule.old_words, Words.piece, Steps.IsOld, Steps.view_of}
use Rattle.snap_register.proofs.{Pools.keeps_record, Spots.old_inside, Later.seated_pool, Later.sized_still}
use Rattle.snap_register.proofs.access.Access.keep.Goals as goal
use Rattle.snap_register.proofs.access.Access.keep.Goals.{After-load}

pub load-requires : goal.load-requires
load-requires c =
    let me = c.args.self.now in
    let old = c.requires.place.1 in
    let own : me.seat.table_id ≡ c.deref.result.now.shared.table_id = search rules in (
      own,
      rw (← own) (old_inside me.seated old),
      keeps_record (Unit {0}) _ _ _ me.seat.me old.own c.requires.place.0 _ me.seated.here old.owns.0 old.owns.1
          old.free
          old.some old.behind old.inside.0 old.inside.1 old.is,
    )

-- the draft has taken on what is left of the record
kept_is : (c : After-load) (q : ℕ) → IsOld (view_of c.args.self.now) q c.args.place → c.load.new.seat.me ≡ (
  record (view_of c.args.self.now) {
    pool = record (view_of c.args.self.now).pool {
      draft = (view_of c.args.self.now).pool.draft ++ piece (old_words (view_of c.args.self.now))
          (length (view_of c.args.self.now).pool.draft) (q + 1 - length (view_of c.args.self.now).pool.draft);
    };
  },
  c.args.self.now.seat.me.1,
)
kept_is c q old = c.load.ensures.2 q old.inside.0 (rw old.owns.0.0 old.is)

pub invariant_of-self : goal.invariant_of-self
invariant_of-self c =
    let me = c.args.self.now in
    let step = c.load.ensures in
    let is = kept_is (goal.at.invariant_of-self c).After-load c.requires.place.0 c.requires.place.1 in
    record {
      own = step.0 ∙ me.own;
      sized = sized_still me (ap (λ (m : Mine). m.0.plan) is);
      seated = seated_pool me.seated _ (ap (λ (t : TableId). t.words) step.0) is;
    }

pub returns : goal.returns
returns c =
    let step = c.load.ensures in
    record { same = λ q old. (refl, step.0, step.1, kept_is (goal.at.returns c).After-load q old) }
