-- A seat's own number and value after it has seen more, and after it has shown an update.
use Rattle.std.proofs.Common.{◌≡◌, ℕ, ◌+◌, List, [], ◌∷◌, ◌++◌, ap, sym, ◌∙◌, arith}
use Rattle.std.proofs.lemmas.List.{append_assoc}
use Rattle.snap_history.specs.History.{Update, Start, updates_of, number_after, value_after}
use Rattle.snap_history.proofs.Moments.{updates-append, last-append, last_none, number-push, value-push}
use Rattle.snap_register.specs.History.{starts}
use Rattle.snap_register.specs.Seat.{Known, Grows, Shows, MayPublish, own_of, number_in, value_in}
use Rattle.snap_register.specs.declared.view.View.{View, TheVariants.Collected, TheVariants.Borrowed}
use Rattle.snap_writer.specs.Update.{IsSameSeat, EndsWith}
use Rattle.snap_register.specs.declared.plan.UpdatePhase.{UpdatePhase}

-- a list that grows without an update of the segment keeps its number and value

pub number_kept : (start : Start) (h rest : List Update) (i : ℕ) → updates_of i rest ≡ 0
    → number_after start (h ++ rest) i ≡ number_after start h i
number_kept start h rest i none =
    let sum : updates_of i (h ++ rest) ≡ updates_of i h + updates_of i rest =
    updates-append i h rest in
    omega arith

pub value_kept : (start : Start) (h rest : List Update) (i : ℕ) → updates_of i rest ≡ 0
    → value_after start (h ++ rest) i ≡ value_after start h i
value_kept start h rest i none = last-append (start i).1 i h rest ∙ last_none (value_after start h i) i rest none

-- a seat that grew and writes one segment

pub same_grown : (a b : Known) → Grows a b → IsSameSeat a b
same_grown a b g = record { table = g.table; plan = g.plan; low = g.low; high = g.high }

pub none_own : (a b : Known) (g : Grows a b) → a.high ≡ a.low + 1 → updates_of (own_of a) g.later.0 ≡ 0
none_own a b g alone =
    let same : number_in a b.seen a.low ≡ number_in a a.seen a.low =
    g.own a.low (omega arith) (omega arith) in
    let all : updates_of a.low b.seen ≡ updates_of a.low (a.seen ++ g.later.0) =
    ap (updates_of a.low) g.later.1 in
    let sum : updates_of a.low (a.seen ++ g.later.0)
    ≡ updates_of a.low a.seen + updates_of a.low g.later.0 = updates-append a.low a.seen g.later.0 in
    omega arith

pub number_grown : (a b : Known) → Grows a b → a.high ≡ a.low + 1
    → number_in b b.seen (own_of b) ≡ number_in a a.seen (own_of a)
number_grown a b g alone = (λ t. number_after (starts (g.plan t)) (g.later.1 t) (g.low t))
    ∙ number_kept (starts a.plan) a.seen g.later.0 a.low (none_own a b g alone)

pub value_grown : (a b : Known) → Grows a b → a.high ≡ a.low + 1
    → value_in b b.seen (own_of b) ≡ value_in a a.seen (own_of a)
value_grown a b g alone = (λ t. value_after (starts (g.plan t)) (g.later.1 t) (g.low t))
    ∙ value_kept (starts a.plan) a.seen g.later.0 a.low (none_own a b g alone)

-- a seat that grew, came to the phase f, and then showed an update

pub ends_with : (a m b : Known) (f : UpdatePhase) (v : List ℕ) → Grows a m → a.high ≡ a.low + 1
    → Shows (record m { phase = f }) b v → EndsWith a b v
ends_with a m b f v g alone s =
    let rest = g.later.0 in
    let own : own_of m ≡ own_of a = g.low in
    let none : updates_of (own_of a) rest ≡ 0 = none_own a m g alone in
    let others : updates_of (own_of a) s.between ≡ 0 =
    sym (ap (λ i. updates_of i s.between) own) ∙ s.others in
    let sum : updates_of (own_of a) (rest ++ s.between)
    ≡ updates_of (own_of a) rest + updates_of (own_of a) s.between =
    updates-append (own_of a) rest s.between in
    let behind : m.seen ++ s.between ≡ a.seen ++ (rest ++ s.between) =
    ap (λ h. h ++ s.between) g.later.1 ∙ append_assoc a.seen rest s.between in
    record {
      between = rest ++ s.between;
      seen = s.seen ∙ (λ t. behind t ++ record { segment = own t; value = v } ∷ []);
      others = omega arith;
    }

pub same_shown : (a m b : Known) (f : UpdatePhase) (v : List ℕ) → Grows a m → Shows (record m { phase = f }) b v
    → IsSameSeat a b
same_shown a m b f v g s = record {
  table = s.table ∙ g.table;
  plan = s.plan ∙ g.plan;
  low = s.low ∙ g.low;
  high = s.high ∙ g.high;
}

pub number_shown : (a b : Known) (v : List ℕ) → IsSameSeat a b → EndsWith a b v
    → number_in b b.seen (own_of b) ≡ number_in a a.seen (own_of a) + 1
number_shown a b v same e =
    let u : Update = record { segment = own_of a; value = v } in
    let now : number_in b b.seen (own_of b)
    ≡ number_in a ((a.seen ++ e.between) ++ u ∷ []) (own_of a) =
    (λ t. number_after (starts (same.plan t)) (e.seen t) (same.low t)) in
    let one : number_in a ((a.seen ++ e.between) ++ u ∷ []) (own_of a)
    ≡ number_in a (a.seen ++ e.between) (own_of a) + 1 =
    number-push (starts a.plan) (a.seen ++ e.between) u in
    let kept : number_in a (a.seen ++ e.between) (own_of a) ≡ number_in a a.seen (own_of a) =
    number_kept (starts a.plan) a.seen e.between (own_of a) e.others in
    omega arith

pub value_shown : (a b : Known) (v : List ℕ) → IsSameSeat a b → EndsWith a b v → value_in b b.seen (own_of b) ≡ v
value_shown a b v same e = let u : Update = record { segment = own_of a; value = v } in
    (λ t. value_after (starts (same.plan t)) (e.seen t) (same.low t))
    ∙ value-push (starts a.plan) (a.seen ++ e.between) u

-- what a seat may publish doesn't depend on its phase
pub may_still : (a : Known) (f : UpdatePhase) (view : View) → MayPublish a view
    → MayPublish (record a { phase = f }) view
may_still a f Collected m = record { part = m.part; beginning = m.beginning; whole = m.whole; each = m.each }
may_still a f (Borrowed j) m = record {
  inside = m.inside;
  found = record { told = m.found.told; is = m.found.is; above = m.found.above };
  whole = m.whole;
}
