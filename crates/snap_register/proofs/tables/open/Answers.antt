use Rattle.std.proofs.Common.{rules, ◌≡◌, ℕ, ◌+◌, ◌*◌, ◌<◌, ◌≤◌, List, [], length, subst, sym, ap, ◌∙◌, arith, refl}
use Rattle.snap_register.specs.Setup.{plan_with, first_view, opening_words, IsReady, IsSized}
use Rattle.snap_register.specs.declared.plan.Opening.{Opening}
use Rattle.snap_register.proofs.Opens.{opens, wide, opening_words_are, first_is, count_of, base_of}
use Rattle.snap_register.specs.{Registers.Mine, declared.plan.Plan.Plan, Rule.Kept, Rule.segments}
use Rattle.atomic_table.specs.{Table.opening, Seated.TableId}
use Rattle.snap_register.proofs.tables.open.Goals as goal
use Rattle.snap_register.proofs.tables.open.Goals.{After-as_slice}

abbrev plan : After-as_slice → Plan
plan c = plan_with c.args.scanners c.args.looks c.args.block_words c.args.values.now.items

-- the plan that the table is made with is that of the values
plan_is : (c : After-as_slice)
    → plan_with c.args.scanners c.args.looks c.args.block_words c.of.result.value.items ≡ plan c
plan_is c = λ i. plan_with c.args.scanners c.args.looks c.args.block_words (c.of.ensures i).items

words_are : (c : After-as_slice) → c.as_slice.result.now ≡ opening_words (plan c)
words_are c = c.as_slice.ensures.value
    ∙ (c.in_ok-words.ensures ∙ opening_words_are c.len-n.result c.args.scanners c.args.looks
    c.args.block_words c.args.values.now.items (search rules))

pub of_words-requires : goal.of_words-requires
of_words-requires c =
    let a = (goal.at.of_words-requires c).After-as_slice in
    subst (λ (x : Plan × List ℕ). Kept {S = Unit {0}} x.0 (opening x.1 [] (first_view x.0)))
    (λ t. (sym (plan_is a) t, sym (words_are a) t)) (opens (plan a) c.requires.ready (Unit {0}))

pub seat_writers-requires-clause-first : goal.seat_writers-requires-clause-first
seat_writers-requires-clause-first c =
    let a = (goal.at.seat_writers-requires-clause-first c).After-as_slice in
    let tab = c.in_ok-table.ensures in
    let me = tab.4 ∙ (λ i. (first_view (plan_is a i), [])) in
    let size_is = ap (λ (t : TableId). t.words) tab.2
    ∙ (tab.0 ∙ (ap length (words_are a) ∙ wide (plan a) c.requires.ready)) in (
      first_is (Unit {0}) (plan a) _ _ c.requires.ready size_is me,
      ap (λ (m : Mine). m.0.low) me,
      ap (λ (m : Mine). m.0.high) me ∙ (sym (count_of c.args.values.now.items) ∙ (search rules)),
    )

pub seat_writers-requires-clause-numbers : goal.seat_writers-requires-clause-numbers
seat_writers-requires-clause-numbers c =
    let a = (goal.at.seat_writers-requires-clause-numbers c).After-as_slice in
    let first = ap (λ (m : Mine). m.0.plan) c.in_ok-table.ensures.4 ∙ plan_is a in
    let l = count_of c.args.values.now.items in (
      search rules,
      λ i li. let li' : i < segments (plan a) = rw first at li in
          rw first (base_of c.args.values.now.items i (omega arith)),
    )

-- the sizes that the seats get are those of the plan
sized : (n s l b : ℕ) (xs : List Opening) → n ≡ length xs → (0 < length xs) × (length xs ≤ 16) × (s ≤ 16)
    → IsReady (plan_with s l b xs)
    → IsSized n s b (n + (n * (n + s + 2) + n * (n + s + 2) * ((n + 1) * b))) (plan_with s l b xs)
sized n s l b xs e count ready = rw (e ∙ count_of xs) (grind (arith, count_of))

pub seat_writers-requires-clause-sized : goal.seat_writers-requires-clause-sized
seat_writers-requires-clause-sized c =
    let a = (goal.at.seat_writers-requires-clause-sized c).After-as_slice in
    rw (ap (λ (m : Mine). m.0.plan) c.in_ok-table.ensures.4 ∙ plan_is a)
    (sized _ _ _ _ c.args.values.now.items (search rules) c.requires.count c.requires.ready, refl)

pub seat_readers-requires-clause-sized : goal.seat_readers-requires-clause-sized
seat_readers-requires-clause-sized c =
    let a = (goal.at.seat_readers-requires-clause-sized c).After-as_slice in
    rw (c.in_ok-writers.ensures.first_seat.2 ∙ ap (λ (m : Mine). m.0.plan) c.in_ok-table.ensures.4 ∙ plan_is a)
    (sized _ _ _ _ c.args.values.now.items (search rules) c.requires.count c.requires.ready, refl)

pub returns-clause-seats : goal.returns-clause-seats
returns-clause-seats c =
    let a = (goal.at.returns-clause-seats c).After-as_slice in
    let first = ap (λ (m : Mine). m.0.plan) c.in_ok-table.ensures.4 ∙ plan_is a in
    let placed = c.in_ok-writers.ensures.first_seat in (
      c.in_ok-table.first_seat.table_id,
      rw first at c.in_ok-writers.ensures.seats.1,
      rw (placed.1, placed.2 ∙ first) at c.in_ok-scanners.ensures.1,
    )
