use Rattle.std.proofs.Common.{◌++◌, ◌∙◌, refl, ap}
use Rattle.atomic_table.specs.Seated.{TableId}
use Rattle.snap_register.proofs.{Later.seated_pool, Later.sized_still, access.Access.copy_rest.Goals.After-copy_words}
use Rattle.snap_register.specs.{Steps.view_of, Steps.draft_of, Steps.Drafts, Registers.Mine, Held.held, Words.piece}
use Rattle.snap_register.proofs.access.Access.copy_rest.Goals as goal

copied : (c : After-copy_words) → Drafts c.args.self.now.seat c.copy_words.new.seat
    (draft_of c.args.self.now ++ piece (held (view_of c.args.self.now) c.args.j) c.args.from c.args.count)
copied c = c.copy_words.ensures.copied c.args.j c.args.from c.place-source.ensures.place c.requires.words.1

pub invariant_of-self : goal.invariant_of-self
invariant_of-self c =
    let b = c.args.self.now in
    let by = copied (goal.at.invariant_of-self c).After-copy_words in
    record {
      own = by.0 ∙ b.own;
      sized = sized_still b (ap (λ (m : Mine). m.0.plan) by.2);
      seated = seated_pool b.seated _ (ap (λ (t : TableId). t.words) by.0) by.2;
    }

pub returns : goal.returns
returns c =
    let by = copied (goal.at.returns c).After-copy_words in
    record { same = (refl, by.0, by.1, by.2) }
