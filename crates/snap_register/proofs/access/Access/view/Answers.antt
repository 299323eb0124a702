use Rattle.std.proofs.Common.{rules, ◌≡◌, ℕ, ◌+◌, ◌<◌, List, Some, length, refl, ap, sym, ◌∙◌, arith}
use Rattle.std.proofs.lemmas.Bool.{MatchBool-at_true, MatchBool-at_false, false_from_ne_true}
use Rattle.std.proofs.lemmas.Option.{slice_get_read}
use Rattle.snap_history.proofs.Lists.{get-set_same, get-set_other}
use Rattle.snap_register.proofs.{Updates.update_found, Updates.view_shown, access.Access.view.Goals.In-loop-k}
use Rattle.snap_register.proofs.{Blocks.behind_more, Views.view_whole, Views.ends_small}
use Rattle.snap_register.specs.{Words.IsWhole, Words.size_at, Words.block_at, Words.behind, Held.held, Held.view_in}
use Rattle.snap_register.specs.{Registers.Mine, Rule.segments, Steps.view_of, declared.access.Access.Access}
use mathlib.Core.Logic.{dite}
use native.Mathlib.Decide.{ℕ_discrete}
use Rattle.snap_register.proofs.access.Access.view.Goals as goal

-- the loop's end
count_is : (a b : Access) → b.seat.me ≡ a.seat.me → b.segments ≡ segments (view_of a).plan
count_is a b same = b.sized.segments_are ∙ ap (λ (m : Mine). segments m.0.plan) same

words_are : (c : In-loop-k) → held (view_of c.loop-k.self) c.args.j ≡ held (view_of c.args.self.now) c.args.j
words_are c = search rules

at_is : (c : In-loop-k) → c.loop-k.at ≡ behind (held (view_of c.args.self.now) c.args.j)
    (size_at (held (view_of c.args.self.now) c.args.j) 0) c.loop-k.k
at_is c = search rules

whole : (c : In-loop-k) → IsWhole (held (view_of c.loop-k.self) c.args.j) c.loop-k.at
whole c =
    let a = c.args.self.now in
    let lt : c.loop-k.k < segments (view_of a).plan =
    omega (arith, count_is a c.size_at-at.new.self c.size_at-at.ensures.same.2, c.loop-k-test.true) in
    let found = update_found a.seat.table_id (view_of a) c.args.j c.requires.updated in
    rw (words_are c, at_is c)
    (view_whole a c.args.j c.loop-k.k c.size_at-at.ensures.legal found.1 c.requires.segment lt)

pub read_named-at-requires-clause-block : goal.read_named-at-requires-clause-block
read_named-at-requires-clause-block c = whole (goal.at.read_named-at-requires-clause-block c).In-loop-k

pub overflow_add-at : goal.overflow_add-at
overflow_add-at c =
    let e = (goal.at.overflow_add-at c).In-loop-k in
    omega (
      arith,
      ends_small c.args.self.now c.args.j _ _ _ c.requires.segment (words_are e) (whole e) c.read_named-at.ensures.size,
    )

pub loop-k-preserved : goal.loop-k-preserved
loop-k-preserved c =
    let inv = c.loop-k.invariant in
    let a = c.size_at-at.new.self.seat.me in
    let k : ℕ = c.loop-k.k in
    let w : List ℕ = held a.0 c.args.j in
    let words : held (view_of c.loop-k.self) c.args.j ≡ w = ap (λ (m : Mine). held m.0 c.args.j) inv.same.2 in
    let here : block_at (held (view_of c.loop-k.self) c.args.j) c.loop-k.at ≡ view_in w k =
    λ t. block_at (words t) (inv.at t) in
    let size : c.read_named-at.result ≡ size_at w (behind w (size_at w 0) k) =
    c.read_named-at.ensures.size ∙ (λ t. size_at (words t) (inv.at t)) in
    let at = inv.at in
    let items = c.loop-k.out-inside.segments.items in
    let test = c.loop-k-test.true in
    let long = inv.long in
    let count = count_is c.args.self.now c.size_at-at.new.self c.size_at-at.ensures.same.2 in
    let room = c.requires.room in
    let out = ap length c.out.view_is in
    record {
      same = search rules;
      long = search rules;
      at = (λ t. at t + size t) ∙ sym (behind_more w (size_at w 0) k);
      view = λ i li named. dite (ℕ_discrete i k) (λ e. rw e (get-set_same items k c.read_named-at.new.out (omega arith)
          ∙ ap Some (MatchBool-at_true _ _ (c.has.ensures.names.1 (rw e at named))
          c.read_named-at.ensures.block ∙ here))) (λ ne. get-set_other items k i c.read_named-at.new.out ne
          ∙ inv.view i (omega arith) named);
      others = λ i un. dite (ℕ_discrete i k) (λ e. rw e (get-set_same items k c.read_named-at.new.out (omega arith)
          ∙ (ap Some (MatchBool-at_false _ _
          (false_from_ne_true _ (λ t. un (rw e (c.has.ensures.names.0 t)))) c.read_named-at.ensures.block)
          ∙ (sym (slice_get_read items (length items) k c.index_mut.result.now refl (omega arith)
          c.index_mut.ensures.value) ∙ inv.others k (rw e at un)))))
          (λ ne. get-set_other items k i c.read_named-at.new.out ne ∙ inv.others i un);
    }

pub returns-clause-view : goal.returns-clause-view
returns-clause-view c =
    let a = c.args.self.now in
    let inv = c.loop-k.invariant in
    let xs = c.loop-k.out-inside.segments.items in
    let room = c.requires.room in
    let out = ap length c.out.view_is in
    let long = inv.long in
    let count = count_is c.args.self.now c.size_at-at.new.self c.size_at-at.ensures.same.2 in
    let test = c.loop-k-test.false in
    let size : length xs ≡ segments (view_of a).plan = omega arith in
    view_shown a.seat.table_id (view_of a) c.args.j c.args.set.bits xs c.size_at-at.ensures.legal
    c.requires.updated (a.seated.records_are c.args.j c.requires.segment) size
    (λ k lk named. inv.view k (omega arith) named ∙ ap (λ (m : Mine).
    Some (view_in (held m.0 c.args.j) k)) c.size_at-at.ensures.same.2)
