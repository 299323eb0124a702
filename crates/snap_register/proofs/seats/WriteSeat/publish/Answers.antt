use Rattle.std.proofs.{Common.get_or-set_same, Common.get_or-set_other, lemmas.List.length-set}
use Rattle.std.proofs.Common.{rules, ◌≡◌, ℕ, ◌+◌, ◌^◌, ◌<◌, List, length, get_or, refl, ap, sym, subst, ◌∙◌, arith}
use Rattle.snap_register.{specs.Held.CanTake, specs.Held.IsShown, specs.Held.taken, proofs.Later.publishes_count}
use Rattle.snap_register.proofs.Blocks.{block_stays}
use Rattle.snap_register.proofs.Updates.{can_take, may_take, shown_is, below_is, number_is, follows_is}
use Rattle.snap_register.proofs.seats.WriteSeat.publish.Goals.{After-copy_view, After-swap}
use Rattle.snap_register.specs.{declared.plan.Plan.Plan, Steps.view_of, Steps.known_of, Steps.pool_of, Steps.draft_of}
use Rattle.snap_register.specs.{declared.view.View.View, History.entry, History.count, History.number, History.start_at}
use Rattle.snap_register.specs.{Seat.Known, Seat.number_in, Seat.own_of, Words.AreBlocks, declared.access.Access.Access}
use Rattle.snap_register.specs.Rule.{buffers, segments, IsLegal, Follows, moved_pool}
use Rattle.snap_register.specs.declared.plan.{BufferPool.BufferPool, SeatView.SeatView, UpdatePhase.TheVariants.Shown}
use Rattle.snap_register.specs.declared.view.View.TheVariants.{Collected, Borrowed}
use Rattle.snap_register.proofs.seats.WriteSeat.publish.Goals as goal

-- the next number is valid
next_small : (a : Access) (i k : ℕ) (x : Known) → known_of a ≡ x → number_in x x.seen (own_of x) + 1 < 2 ^ 63
    → (view_of a).low ≡ i → k ≡ number (view_of a).plan (view_of a).seen i → k + 1 < 2 ^ 63
next_small a i k x is small low own =
    let v : SeatView = view_of a in
    let next : number_in (known_of a) (known_of a).seen v.low + 1 < 2 ^ 63 =
    subst (λ (y : Known). number_in y y.seen (own_of y) + 1 < 2 ^ 63) (sym is) small in
    omega (arith, number_is v.plan v.seen v.low, ap (λ (j : ℕ). number v.plan v.seen j) low)

pub overflow_add-next : goal.overflow_add-next
overflow_add-next c = omega (
  arith,
  next_small c.self.inside.access _ _ _ c.self.view_is c.requires.next c.self.invariant.role.0
      c.self.invariant.number_is,
)

can_pool : (v : SeatView) (p : BufferPool) (view : View) → CanTake v view → CanTake (record v { pool = p }) view
can_pool v p Collected can = can
can_pool v p (Borrowed j) can = can

taken_pool : (v : SeatView) (p : BufferPool) (view : View) → taken (record v { pool = p }) view ≡ taken v view
taken_pool v p Collected = refl
taken_pool v p (Borrowed j) = refl

-- only the pool has changed
abbrev WithPool : SeatView → BufferPool → SeatView
WithPool v p = record v { pool = p }

second_is : (c : After-copy_view)
    → view_of c.draft_value-end.new.self ≡ WithPool (view_of c.self.inside.access) (pool_of c.draft_value-end.new.self)
second_is c = search rules

third_is : (c : After-copy_view)
    → view_of c.copy_view.new.self ≡ WithPool (view_of c.self.inside.access) (pool_of c.copy_view.new.self)
third_is c = search rules

may_follow : (c : After-copy_view) → IsLegal (view_of c.self.inside.access).plan (view_of c.self.inside.access).seen
    → Follows (view_of c.self.inside.access).plan (view_of c.self.inside.access).seen
    (entry c.self.inside.segment (draft_of c.copy_view.new.self))
may_follow c legal =
    let s = c.self.inside.access.seat in
    let inv = c.self.invariant in
    let may = rw (← c.self.view_is) at c.requires.view in
    let v : SeatView = view_of c.self.inside.access in
    let size = c.draft_value-end.ensures.size in
    let plan : (view_of c.draft_value-end.new.self).plan ≡ v.plan = ap (λ (u : SeatView). u.plan) (second_is c) in
    let took : taken (view_of c.draft_value-end.new.self) c.args.view.now
    ≡ taken v c.args.view.now = ap (λ (u : SeatView). taken u c.args.view.now) (second_is c)
    ∙ taken_pool v (pool_of c.draft_value-end.new.self) c.args.view.now in
    let blocks : AreBlocks (draft_of c.copy_view.new.self)
    (length (draft_of c.draft_value-end.new.self)) (segments v.plan) (taken v c.args.view.now)
    = subst (λ (x : ℕ × Plan × (ℕ → ℕ × List ℕ)).
    AreBlocks (draft_of c.copy_view.new.self) x.0 (segments x.1) x.2) (λ t.
    (size.0 t, plan t, took t)) c.copy_view.ensures.blocks in
    follows_is v c.self.inside.segment (c.self.inside.number + 1) c.args.view.now c.args.value.now
    (draft_of c.draft_value-end.new.self) (draft_of c.copy_view.new.self)
    (can_take s.table_id s.me.0 c.args.view.now may)
    (rw (← inv.role.0) (may_take s.table_id s.me.0 c.args.view.now c.self.inside.access.seated.readable may))
    c.self.inside.access.seated.records_are (ap (λ (n : ℕ). n + 1) inv.number_is)
    c.draft_value-end.ensures.block (sym size.0 ∙ size.1) c.copy_view.ensures.prefix blocks legal

pub copy_view-requires-clause-pinned : goal.copy_view-requires-clause-pinned
copy_view-requires-clause-pinned c =
    let s = c.self.inside.access.seat in
    let is : view_of c.draft_value-end.new.self
    ≡ WithPool (view_of c.self.inside.access) (pool_of c.draft_value-end.new.self) = search rules in
    rw is (can_pool s.me.0 (pool_of c.draft_value-end.new.self) c.args.view.now
    (can_take s.table_id s.me.0 c.args.view.now (rw (← c.self.view_is) at c.requires.view)))

pub swap-requires-clause-next : goal.swap-requires-clause-next
swap-requires-clause-next c =
    let is = third_is (goal.at.swap-requires-clause-next c).After-copy_view in
    let inv = c.self.invariant in
    let small = next_small c.self.inside.access _ _ _ c.self.view_is c.requires.next inv.role.0 inv.number_is in
    rw (ap (λ (v : SeatView). v.plan) is, ap (λ (v : SeatView). v.seen) is) (omega (arith, inv.number_is))

pub swap-requires-clause-view : goal.swap-requires-clause-view
swap-requires-clause-view c = λ legal.
    let a = (goal.at.swap-requires-clause-view c).After-copy_view in
    let is = third_is a in
    let plan = ap (λ (v : SeatView). v.plan) is in
    let seen = ap (λ (v : SeatView). v.seen) is in
    rw (plan, seen) (may_follow a (rw (plan, seen) at legal))

shows : (c : After-swap) → IsShown (view_of c.self.inside.access) (view_of c.swap.new.self)
    c.self.inside.segment (c.self.inside.number + 1) c.args.value.now
shows c =
    let is : view_of c.copy_view.new.self
    ≡ WithPool (view_of c.self.inside.access) (pool_of c.copy_view.new.self) = search rules in
    let v : SeatView = view_of c.self.inside.access in
    let u : SeatView = view_of c.copy_view.new.self in
    let w : SeatView = view_of c.swap.new.self in
    let shown = c.swap.ensures.shown in
    let same : w ≡ record v { seen = w.seen; pool = w.pool; phase = Shown } = search rules in
    let own = c.draft_value-end.ensures.block in
    let stays = block_stays _ u.pool.draft 0 c.copy_view.ensures.prefix own.whole in
    record {
      same = same;
      between = shown.between;
      words = u.pool.draft;
      seen = rw (← ap (λ (x : SeatView). x.seen) is) shown.seen;
      others = shown.others;
      value_is = ap (λ (x : ℕ × List ℕ). x.1) (stays.block ∙ own.is);
      number_is = grind (
        arith,
        publishes_count u w c.self.inside.segment c.swap.result shown,
        ap (λ (x : SeatView). count c.self.inside.segment x.seen) is,
        ap (λ (x : SeatView). (start_at x.plan c.self.inside.segment).number) same,
        c.self.invariant.number_is,
      );
      below = rw (ap (λ (x : SeatView). x.plan) shown.same) shown.below;
    }

pub invariant_of-self : goal.invariant_of-self
invariant_of-self c =
    let inv = c.self.invariant in
    let s = shows (goal.at.invariant_of-self c).After-swap in
    let v : SeatView = view_of c.self.inside.access in
    let w : SeatView = view_of c.swap.new.self in
    let pool : pool_of c.swap.new.self ≡ moved_pool v c.find_free-b.result c.swap.result = search rules in
    let found : c.find_free-b.result < buffers v.plan = search rules in
    let plan : w.plan ≡ v.plan = ap (λ (u : SeatView). u.plan) s.same in
    let mine : ℕ = c.self.inside.current in
    let wide : mine < length c.self.inside.counted = search rules in
    record {
      role = rw s.same inv.role;
      inside = rw plan inv.inside;
      number_is = sym s.number_is;
      current_is = sym (ap (λ (x : BufferPool). x.current) pool);
      current_inside = rw plan found;
      found_pinned_is = ap (λ (x : BufferPool). x.found_pinned) pool;
      counts = ap (λ (x : BufferPool). length x.counted) pool ∙ rw plan (length-set _ _ _ ∙ inv.counts);
      counted_are = λ b lb. grind (
        arith,
        get_or-set_same {A = ℕ},
        get_or-set_other {A = ℕ},
        ap (λ (x : BufferPool). get_or x.counted b 0) pool,
        inv.counted_are b (rw plan at lb),
        inv.counted_are mine inv.current_inside,
        inv.current_is,
        inv.counts,
        wide,
      );
      draft_none = ap (λ (x : BufferPool). x.draft) pool;
      wide_records = ap (λ (x : BufferPool). length x.records) pool ∙ rw plan (length-set _ _ _ ∙ inv.wide_records);
      filled_are = λ b lb any. grind (
        arith,
        get_or-set_same {A = ℕ},
        get_or-set_other {A = ℕ},
        ap (λ (x : BufferPool). get_or x.records b 0) pool,
        inv.filled_are b (rw plan at lb),
        inv.wide_records,
        found,
      );
    }

pub returns-clause-shown : goal.returns-clause-shown
returns-clause-shown c =
    let s = c.self.inside.access.seat in
    let n = c.swap.new.self.seat in
    rw (← c.self.view_is) (shown_is s.table_id n.table_id s.me.0 n.me.0 c.self.inside.segment (c.self.inside.number + 1)
    c.args.value.now (search rules) c.self.invariant.role.0
    (shows (goal.at.returns-clause-shown c).After-swap)
    (ap (λ (x : Known). x.phase) c.self.view_is ∙ c.requires.stored))

pub returns-clause-below : goal.returns-clause-below
returns-clause-below c =
    let n = c.swap.new.self.seat in
    below_is n.table_id n.me.0 (shows (goal.at.returns-clause-below c).After-swap).below

pub returns-clause-number : goal.returns-clause-number
returns-clause-number c =
    let w : SeatView = view_of c.swap.new.self in
    let s = shows (goal.at.returns-clause-number c).After-swap in
    let low = ap (λ (u : SeatView). u.low) s.same ∙ c.self.invariant.role.0 in
    sym (number_is w.plan w.seen w.low ∙ (ap (λ (i : ℕ). number w.plan w.seen i) low ∙ s.number_is))
