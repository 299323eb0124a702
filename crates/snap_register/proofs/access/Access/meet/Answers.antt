use Rattle.std.proofs.Common.{rules, ◌≡◌, sym, ap, ◌∙◌, get_or}
use Rattle.atomic_table.specs.Seated.{TableId}
use Rattle.snap_register.proofs.{Keeps.hears, Later.seated_shown, Later.sized_still, Later.some_words}
use Rattle.snap_register.proofs.Joins.{shares, tells, adopts}
use Rattle.snap_register.proofs.access.Access.meet.Goals.{After-split_seat-answer, After-join_seat-2}
use Rattle.snap_register.specs.{Rule.Learns, Rule.with_received, Registers.Mine, Steps.view_of, Steps.pool_of}
use mathlib.Core.List.{IsPrefix}
use Rattle.snap_register.proofs.access.Access.meet.Goals as goal

pub split_seat-messenger-requires : goal.split_seat-messenger-requires
split_seat-messenger-requires c =
    let me = c.args.self.now in
    let own : me.seat.table_id ≡ c.deref.result.now.shared.table_id = search rules in (
      own,
      rw (← own) (some_words me.sized me.seated.words_are),
      shares (Unit {0}) _ _ _,
    )

pub join_seat-requires : goal.join_seat-requires
join_seat-requires c =
    let them = c.args.other.now in
    let own : them.seat.table_id ≡ c.deref-2.result.now.shared.table_id = search rules in (
      own,
      c.split_seat-messenger.ensures.3 ∙ (sym c.requires.0 ∙ own),
      ap (λ (m : Mine). m.1) c.split_seat-messenger.ensures.4,
      rw (← own) (some_words them.sized them.seated.words_are),
      tells (Unit {0}) _ _ _ _ _ them.seated.seen_end_is (λ i.
          ap (λ (m : Mine). get_or m.0.pins i 0) c.split_seat-messenger.ensures.4),
    )

pub load-requires : goal.load-requires
load-requires c =
    let them = c.args.other.now in
    let own : them.seat.table_id ≡ c.deref-3.result.now.shared.table_id = search rules in (
      c.join_seat.ensures.0 ∙ own,
      rw (← own) (some_words them.sized them.seated.words_are),
      hears (Unit {0}) _ _ _ _ _ (ap (λ (m : Mine). m.0.spent) c.join_seat.ensures.2 ∙ them.seated.here),
    )

pub split_seat-answer-requires : goal.split_seat-answer-requires
split_seat-answer-requires c =
    let them = c.args.other.now in
    let own : them.seat.table_id ≡ c.deref-4.result.now.shared.table_id = search rules in (
      c.load.ensures.0 ∙ (c.join_seat.ensures.0 ∙ own),
      rw (← own) (some_words them.sized them.seated.words_are),
      shares (Unit {0}) _ _ _,
    )

pub join_seat-requires-2 : goal.join_seat-requires-2
join_seat-requires-2 c =
    let me = c.args.self.now in
    let them = c.args.other.now in
    let own : me.seat.table_id ≡ c.deref-5.result.now.shared.table_id = search rules in
    let same = c.split_seat-messenger.ensures.2 in (
      c.split_seat-messenger.ensures.0 ∙ own,
      c.split_seat-answer.ensures.3 ∙ (c.load.ensures.0 ∙ (c.join_seat.ensures.0 ∙ (c.requires.0 ∙ own))),
      ap (λ (m : Mine). m.1) c.split_seat-answer.ensures.4,
      rw (← own) (some_words me.sized me.seated.words_are),
      adopts (Unit {0}) _ _ _ _ _ (ap (λ (m : Mine). m.0.low) same ∙ c.requires.2)
          (ap (λ (m : Mine). m.0.high) same ∙ c.requires.3)
          (λ i. ap (λ (m : Mine). get_or m.0.pins i 0) c.split_seat-answer.ensures.4),
    )

told_by : (c : After-split_seat-answer)
    → Learns (with_received (view_of c.args.other.now) c.split_seat-messenger.result.me.0)
    c.split_seat-answer.new.seat.me.0
told_by c = rw (c.join_seat.ensures.2, ← c.split_seat-answer.ensures.2) at c.load.ensures.2.0

other_is : (c : After-split_seat-answer) → c.split_seat-answer.new.seat.me ≡ (
  record (view_of c.args.other.now) { seen = c.split_seat-answer.new.seat.me.0.seen },
  c.args.other.now.seat.me.1,
)
other_is c = search rules

pub invariant_of-other : goal.invariant_of-other
invariant_of-other c =
    let a = (goal.at.invariant_of-other c).After-split_seat-answer in
    let them = c.args.other.now in
    let table = c.split_seat-answer.ensures.0 ∙ (c.load.ensures.0 ∙ c.join_seat.ensures.0) in
    record {
      own = table ∙ them.own;
      sized = sized_still them (ap (λ (m : Mine). m.0.plan) (other_is a));
      seated = seated_shown them.seated (pool_of them) _ them.sized
          (ap (λ (t : TableId). t.words) table) (other_is a) (told_by a).later (told_by a).legal;
    }

self_is : (c : After-join_seat-2) → c.join_seat-2.new.seat.me ≡ (
  record (view_of c.args.self.now) { seen = c.split_seat-answer.new.seat.me.0.seen },
  c.args.self.now.seat.me.1,
)
self_is c = search rules

self_later : (c : After-split_seat-answer)
    → IsPrefix (view_of c.args.self.now).seen c.split_seat-answer.new.seat.me.0.seen
self_later c = rw c.split_seat-messenger.ensures.4 at (told_by c).received

pub invariant_of-self : goal.invariant_of-self
invariant_of-self c =
    let a = (goal.at.invariant_of-self c).After-split_seat-answer in
    let b = (goal.at.invariant_of-self c).After-join_seat-2 in
    let me = c.args.self.now in
    let table = c.join_seat-2.ensures.0 ∙ c.split_seat-messenger.ensures.0 in
    let is = self_is b in
    record {
      own = table ∙ me.own;
      sized = sized_still me (ap (λ (m : Mine). m.0.plan) is);
      seated = seated_shown me.seated (pool_of me) _ me.sized
          (ap (λ (t : TableId). t.words) table) is (self_later a) (rw c.requires.1 at (told_by a).legal);
    }
