use Rattle.std.proofs.Common.{◌≡◌, ℕ, ◌+◌, ◌-◌, ◌<◌, List, ap, sym, ◌∙◌, arith}
use Rattle.snap_register.{specs.declared.plan.SeatView.SeatView, proofs.Drafts.held_drafted, proofs.Drafts.block_copied}
use Rattle.snap_register.{specs.Registers.Mine, specs.Rule.segments, proofs.Blocks.behind_more}
use Rattle.snap_register.proofs.{Views.view_whole, Views.ends_small, Aligned.of_record, Aligned.of_view}
use Rattle.snap_register.proofs.access.Access.copy_view.Goals.{In-loop-k, In-loop}
use Rattle.snap_register.specs.{Words.IsWhole, Words.size_at, Words.block_at, Words.behind, Steps.view_of, Steps.IsOf}
use Rattle.snap_register.specs.{Held.held, Held.taken, Held.CanTake, declared.access.draft.DraftEnd.DraftEnd}
use Rattle.snap_register.specs.declared.view.View.TheVariants.{Collected, Borrowed}
use Rattle.snap_register.proofs.access.Access.copy_view.Goals as goal

-- the segment is one of the plan's
inside : (c : In-loop-k) → c.loop-k.k < segments (view_of c.loop-k.self).plan
inside c = rw c.loop-k.invariant.same.3 (omega (arith, c.args.self.now.sized.segments_are, c.loop-k-test.true))

pub copy_block-to-requires-clause-segment : goal.copy_block-to-requires-clause-segment
copy_block-to-requires-clause-segment c =
    let m = c.loop-k.self in
    let k : ℕ = c.loop-k.k in
    let lk = inside (goal.at.copy_block-to-requires-clause-segment c).In-loop-k in
    (k, lk, c.loop-k.invariant.aligned, of_record (view_of m) k (m.seated.records_are k lk) (m.seated.readable k lk))

pub loop-k-preserved : goal.loop-k-preserved
loop-k-preserved c =
    let inv = c.loop-k.invariant in
    let a = c.args.self.now in
    let m = c.loop-k.self in
    let k : ℕ = c.loop-k.k in
    let step = c.copy_block-to.ensures in
    block_copied a m c.copy_block-to.new.self c.args.end.at k k 0 c.loop-k.to c.copy_block-to.result
    (taken (view_of a) Collected) inv step.copied step.size
    (ap (λ (l : List ℕ). block_at l 0) (held_drafted a.seat.me m.seat.me k inv.same.3))
    (step.aligned k (inside (goal.at.loop-k-preserved c).In-loop-k) inv.aligned)

can_take : (c : In-loop) → CanTake (view_of c.args.self.now) (Borrowed c.in-Borrowed.j)
can_take c = rw c.in-Borrowed.is at c.requires.pinned

-- the words read are those of the record that the seat pins
words_are : (c : In-loop) → held (view_of c.loop.self) c.in-Borrowed.j ≡ held (view_of c.args.self.now) c.in-Borrowed.j
words_are c = held_drafted c.size_at-from.new.self.seat.me c.loop.self.seat.me c.in-Borrowed.j
    c.loop.invariant.copied.same.3
    ∙ ap (λ (m : Mine). held m.0 c.in-Borrowed.j) c.size_at-from.ensures.same.2

from_is : (c : In-loop) → c.loop.from ≡ behind (held (view_of c.args.self.now) c.in-Borrowed.j)
    (size_at (held (view_of c.args.self.now) c.in-Borrowed.j) 0) c.loop.counter
from_is c = c.loop.invariant.from
    ∙ ap (λ (m : Mine). behind (held m.0 c.in-Borrowed.j) (size_at (held m.0 c.in-Borrowed.j) 0) c.loop.counter)
    c.size_at-from.ensures.same.2

whole : (c : In-loop) → IsWhole (held (view_of c.loop.self) c.in-Borrowed.j) c.loop.from
whole c =
    let a = c.args.self.now in
    let can = can_take c in
    let init = c.size_at-from.new.self in
    let lt : c.loop.counter < segments (view_of a).plan =
    rw (← c.size_at-from.ensures.same.2, ← init.sized.segments_are) c.loop-test.true in
    rw (words_are c, from_is c)
    (view_whole a c.in-Borrowed.j c.loop.counter c.size_at-from.ensures.legal can.2 can.0 lt)

pub copy_block-next-requires-clause-block : goal.copy_block-next-requires-clause-block
copy_block-next-requires-clause-block c = whole (goal.at.copy_block-next-requires-clause-block c).In-loop

below : (c : In-loop) → c.loop.counter < segments (view_of c.args.self.now).plan
below c = rw (← c.size_at-from.ensures.same.2, ← c.size_at-from.new.self.sized.segments_are) c.loop-test.true

below_now : (c : In-loop) → c.loop.counter < segments (view_of c.loop.self).plan
below_now c = rw (c.loop.invariant.copied.same.3, c.size_at-from.ensures.same.2) (below c)

size_is : (c : In-loop) (n : DraftEnd)
    → n.at ≡ c.loop.to.at + size_at (held (view_of c.loop.self) c.in-Borrowed.j) c.loop.from
    → n.at - c.loop.to.at ≡ size_at (held (view_of c.loop.self) c.in-Borrowed.j) c.loop.from
size_is c n is = omega arith

pub copy_block-next-requires-clause-segment : goal.copy_block-next-requires-clause-segment
copy_block-next-requires-clause-segment c =
    let e = (goal.at.copy_block-next-requires-clause-segment c).In-loop in
    let v : SeatView = view_of c.args.self.now in
    let j : ℕ = c.in-Borrowed.j in
    let can = can_take e in
    let old : IsOf v.plan v.seen c.loop.counter (held v j) c.loop.from = rw (from_is e) (of_view v j c.loop.counter
    c.size_at-from.ensures.legal can.2 (c.args.self.now.seated.records_are j can.0) (below e)) in (
      c.loop.counter,
      below_now e,
      c.loop.invariant.copied.aligned,
      rw (words_are e, c.loop.invariant.copied.same.3, c.size_at-from.ensures.same.2) old,
    )

pub overflow_add-from : goal.overflow_add-from
overflow_add-from c =
    let e = (goal.at.overflow_add-from c).In-loop in
    omega (
      arith,
      ends_small c.args.self.now c.in-Borrowed.j _ _ _ (can_take e).0 (words_are e) (whole e)
          (size_is e c.copy_block-next.result c.copy_block-next.ensures.size.0),
    )

pub loop-preserved : goal.loop-preserved
loop-preserved c =
    let inv = c.loop.invariant in
    let a = c.size_at-from.new.self in
    let m = c.loop.self in
    let k : ℕ = c.loop.counter in
    let j : ℕ = c.in-Borrowed.j in
    let step = c.copy_block-next.ensures in
    let same : held (view_of m) j ≡ held (view_of a) j = held_drafted a.seat.me m.seat.me j inv.copied.same.3 in
    let w : List ℕ = held (view_of a) j in
    let e = (goal.at.loop-preserved c).In-loop in
    let size : c.copy_block-next.result.at - c.loop.to.at ≡ size_at w (behind w (size_at w 0) k) =
    size_is e c.copy_block-next.result step.size.0 ∙ (λ t. size_at (same t) (inv.from t)) in
    record {
      copied = block_copied a m c.copy_block-next.new.self c.args.end.at k j c.loop.from c.loop.to
          c.copy_block-next.result (taken (view_of a) (Borrowed j)) inv.copied step.copied step.size
          (λ t. block_at (same t) (inv.from t)) (step.aligned k (below_now e) inv.copied.aligned);
      from = (λ t. inv.from t + size t) ∙ sym (behind_more w (size_at w 0) k);
    }
