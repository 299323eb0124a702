-- The registers' history as updates of a memory: what a seat knows, in its callers' terms.
use Rattle.std.proofs.Common.{◌≡◌, ℕ, zero, suc, ◌+◌, ◌<◌, ◌≤◌, List, [], ◌∷◌, ◌++◌}
use Rattle.std.proofs.Common.{le_refl, length, get_or, Some, slice_get, refl, ap, sym, ◌∙◌, arith, append_assoc}
use Rattle.std.proofs.lemmas.{List.map-append, List.take-map, Bool.Decides.nat_tests}
use Rattle.std.proofs.{Common.take, Common.drop, Math.Seq.take-append_seam, lemmas.List.take-append-drop}
use Rattle.atomic_table.specs.Seated.{TableId}
use Rattle.snap_history.specs.History.{Update, IsBeginning, updates_of, last_value, number_after, value_after}
use Rattle.snap_register.specs.declared.view.View.TheVariants.{Collected, Borrowed}
use Rattle.snap_register.specs.History.{entry, only, count, number, start_at, memory, record_words, update_of, updates}
use Rattle.snap_register.specs.History.{starts}
use Rattle.snap_register.specs.Rule.{segments, Has, IsLegal, Follows}
use Rattle.snap_register.specs.Words.{value_at, size_at, IsBlock, AreBlocks}
use Rattle.snap_register.specs.Held.{held, view_in, taken, Readable, CanTake, MayTake, IsShown}
use Rattle.snap_register.specs.Seat.{known, looked, IsBelow, Grows, HasLooked, HasFoundUpdate, IsValue, IsView}
use Rattle.snap_register.specs.Seat.{MayPublish, Meets, Shows}
use Rattle.snap_register.proofs.Lines.{find, count_push_same, record_prefix}
use Rattle.snap_register.specs.declared.{plan.Entry.Entry, plan.Plan.Plan, plan.SeatView.SeatView, view.View.View}
use Rattle.snap_register.proofs.{Blocks.record_of, Views.viewed}
use Rattle.snap_scan.specs.Sets.{Names}
use Rattle.snap_register.specs.declared.plan.UpdatePhase.TheVariants.{Stored}
use mathlib.Core.List.{IsPrefix}
use Rattle.snap_register.specs.Rule as rule

pub updates_count : (i : ℕ) (h : List Entry) → updates_of i (updates h) ≡ count i h
updates_count i [] = refl
updates_count i (x ∷ h) = grind (arith, nat_tests, updates_count i h)

abbrev last_of : ℕ → Entry → List Entry → List ℕ
last_of i e l = value_at (get_or (e ∷ l) (length l) (entry i [])).words 0

last_is : (i : ℕ) (h : List Entry) (e : Entry) → last_value (value_at e.words 0) i (updates h) ≡ last_of i e (only i h)
last_is i [] e = refl
last_is i (x ∷ h) e = grind (arith, nat_tests, last_is i h e, last_is i h x)

pub number_is : (p : Plan) (h : List Entry) (i : ℕ) → number_after (starts p) (updates h) i ≡ number p h i
number_is p h i = omega (arith, updates_count i h)

pub value_is : (p : Plan) (h : List Entry) (i : ℕ) → value_after (starts p) (updates h) i ≡ (memory p h i).1
value_is p h i = last_is i h (entry i (start_at p i).words)

-- A beginning of one is a beginning of the other:

pub beginning_is : (a h : List Entry) → IsPrefix a h → IsBeginning (updates a) (updates h)
beginning_is a h pre = (updates pre.0, sym (ap updates pre.1) ∙ map-append update_of a pre.0)

back : (part : List Update) (h : List Entry) → IsBeginning part (updates h)
    → (l : List Entry) × IsPrefix l h × (updates l ≡ part)
back part h b = let n : ℕ = length part in (
  take n h,
  (drop n h, take-append-drop n h),
  sym (take-map update_of n h) ∙ (ap (take n) b.1 ∙ take-append_seam part b.0),
)

-- a beginning with r updates of j
moment : (h : List Entry) (j r : ℕ) → r ≤ count j h → (part : List Entry) × IsPrefix part h × (count j part ≡ r)
moment h j zero le = ([], (h, refl), refl)
moment h j (suc r) le =
    let f = find j r h (omega arith) in
    let e : Entry = get_or (only j h) r (entry j []) in (
      f.before ++ e ∷ [],
      (f.after, append_assoc f.before (e ∷ []) f.after ∙ f.is),
      omega (arith, count_push_same j f.before e f.its, f.place),
    )

-- What the last look found:

pub looked_some : (z : TableId) (v : SeatView) (j : ℕ) → 0 < get_or v.pins j 0
    → looked (known z v) j ≡ Some ((start_at v.plan j).number + get_or v.records j 0)
looked_some z v j some = grind (arith, nat_tests)

pub pinned_looked : (z : TableId) (v : SeatView) (j : ℕ) → HasLooked (known z v) j → 0 < get_or v.pins j 0
pinned_looked z v j some = grind (arith, nat_tests)

pub last_look_is : (z : TableId) (v : SeatView) (j k : ℕ) → looked (known z v) j ≡ Some k
    → (0 < get_or v.pins j 0) × ((start_at v.plan j).number + get_or v.records j 0 ≡ k)
last_look_is z v j k is = grind (arith, nat_tests)

pub update_found : (z : TableId) (v : SeatView) (j : ℕ) → HasFoundUpdate (known z v) j
    → (0 < get_or v.pins j 0) × (0 < get_or v.records j 0)
update_found z v j found =
    let t = last_look_is z v j found.told found.is in (t.0, omega (arith, t.1, found.above))

-- The calls of a seat:

pub grows_is : (z z' : TableId) (v w : SeatView) → z' ≡ z → w.plan ≡ v.plan → w.low ≡ v.low → w.high ≡ v.high
    → IsPrefix v.seen w.seen → ((i : ℕ) → Has v i → only i w.seen ≡ only i v.seen) → w.phase ≡ v.phase
    → Grows (known z v) (known z' w)
grows_is z z' v w same plan low high later own phase = grind (arith, nat_tests, beginning_is, updates_count)

-- a meeting, after which the seat has seen h
pub meets_is : (z z' : TableId) (v w : SeatView) (h : List Entry) → z' ≡ z → w ≡ record v { seen = h }
    → IsPrefix v.seen h → ((i : ℕ) → Has v i → only i h ≡ only i v.seen) → Meets (known z v) (known z' w)
meets_is z z' v w h same is later own = rw is (record {
  grows = grows_is z z' v (record v { seen = h }) same refl refl refl later own refl;
  looks = λ i. refl;
  left = refl;
  look_records = refl;
})

pub below_is : (z : TableId) (v : SeatView) → rule.IsBelow v.plan v.seen → IsBelow (known z v)
below_is z v b i li = omega (arith, number_is v.plan v.seen i, b i li)

pub value_shown : (z : TableId) (v : SeatView) (j : ℕ) (value : List ℕ) → HasLooked (known z v) j
    → get_or v.records j 0 ≤ count j v.seen → value ≡ value_at (held v j) 0 → IsValue (known z v) j value
value_shown z v j value has le is =
    let m = moment v.seen j (get_or v.records j 0) le in
    let words : held v j ≡ record_words v.plan m.0 j (count j m.0) =
    ap (record_words v.plan v.seen j) (sym m.2)
    ∙ record_prefix v.plan m.0 v.seen j (count j m.0) m.1 (le_refl (count j m.0)) in
    record {
      part = updates m.0;
      beginning = beginning_is m.0 v.seen m.1;
      number = looked_some z v j (pinned_looked z v j has) ∙ ap Some (omega (arith, number_is v.plan m.0 j));
      value_is = is ∙ (ap (λ (l : List ℕ). value_at l 0) words ∙ sym (value_is v.plan m.0 j));
    }

memory_is : (p : Plan) (h : List Entry) (i : ℕ)
    → memory p h i ≡ (number_after (starts p) (updates h) i, value_after (starts p) (updates h) i)
memory_is p h i = λ t. (sym (number_is p h i) t, sym (value_is p h i) t)

pub view_shown : (z : TableId) (v : SeatView) (j set : ℕ) (xs : List (ℕ × List ℕ)) → IsLegal v.plan v.seen
    → HasFoundUpdate (known z v) j → get_or v.records j 0 ≤ count j v.seen → length xs ≡ segments v.plan → ((k : ℕ)
    → k < segments v.plan → Names set k → slice_get xs k ≡ Some (view_in (held v j) k)) → IsView (known z v) j set xs
view_shown z v j set xs legal found le size each =
    let t = last_look_is z v j found.told found.is in
    let u = viewed v.plan v.seen j (get_or v.records j 0) legal (omega (arith, t.1, found.above)) le in
    record {
      part = updates u.part;
      beginning = beginning_is u.part v.seen u.beginning;
      before = found.is ∙ ap Some (omega (arith, number_is v.plan u.part j, u.before, t.1));
      memory = record {
        size = size;
        each = λ k lk named. each k lk named ∙ ap Some ((u.view.each k lk).is ∙ memory_is v.plan u.part k);
      };
    }

-- A view that the caller may publish can be carried by the seat:

pub can_take : (z : TableId) (v : SeatView) (view : View) → MayPublish (known z v) view → CanTake v view
can_take z v Collected m = λ i li. (last_look_is z v i _ (m.each i li)).0
can_take z v (Borrowed j) m = let u = update_found z v j m.found in (m.inside, u.0, u.1)

pub may_take : (z : TableId) (v : SeatView) (view : View) → ((i : ℕ) → i < segments v.plan
    → Readable v.plan v.seen i (get_or v.records i 0)) → MayPublish (known z v) view → MayTake v v.low view
may_take z v Collected read m =
    let b = back m.part v.seen m.beginning in
    let same : (k : ℕ) → number_after (starts v.plan) m.part k ≡ number v.plan b.0 k =
    λ k. rw b.2 at (number_is v.plan b.0 k) in (
      b.0,
      b.1,
      omega (arith, number_is v.plan v.seen v.low, m.whole, same v.low),
      λ k lk.
          let t = (last_look_is z v k _ (m.each k lk)).1 in
          let c : get_or v.records k 0 ≡ count k b.0 = omega (arith, same k) in
          let words : held v k ≡ record_words v.plan b.0 k (count k b.0) =
          ap (record_words v.plan v.seen k) c
          ∙ record_prefix v.plan b.0 v.seen k (count k b.0) b.1 (le_refl (count k b.0)) in
          (read k lk).own.is ∙ (λ s. ((start_at v.plan k).number + c s, value_at (words s) 0)),
    )
may_take z v (Borrowed j) read m = λ part pre before.
    let t = last_look_is z v j m.found.told m.found.is in
    let w = m.whole (updates part) (beginning_is part v.seen pre)
    (m.found.is ∙ ap Some (omega (arith, t.1, number_is v.plan part j))) in
    omega (arith, number_is v.plan part v.low, number_is v.plan v.seen v.low)

-- then the update may follow
follows_of : (v : SeatView) (i k : ℕ) (view : View) (value d e : List ℕ) (part : List Entry) → IsPrefix part v.seen
    → count i part ≡ count i v.seen → ((j : ℕ) → j < segments v.plan → taken v view j ≡ memory v.plan part j)
    → k ≡ number v.plan v.seen i + 1 → IsBlock d 0 k value → length d ≡ size_at d 0 → IsPrefix d e
    → AreBlocks e (length d) (segments v.plan) (taken v view) → Follows v.plan v.seen (entry i e)
follows_of v i k view value d e part beginning whole each next own long pre blocks =
    let n : k ≡ number v.plan part i + 1 = omega arith in
    let r = record_of d e (segments v.plan) k value (taken v view) (memory v.plan part) own long pre
    blocks each in
    let val : value_at e 0 ≡ value = ap (λ (x : ℕ × List ℕ). x.1) r.own.is in
    (part, beginning, whole, rw (← n, val) r)

pub follows_is : (v : SeatView) (i k : ℕ) (view : View) (value d e : List ℕ) → CanTake v view
    → MayTake v i view → ((j : ℕ) → j < segments v.plan → get_or v.records j 0 ≤ count j v.seen)
    → k ≡ number v.plan v.seen i + 1 → IsBlock d 0 k value → length d ≡ size_at d 0 → IsPrefix d e
    → AreBlocks e (length d) (segments v.plan) (taken v view) → IsLegal v.plan v.seen
    → Follows v.plan v.seen (entry i e)
follows_is v i k Collected value d e can may old next own long pre blocks legal =
    follows_of v i k Collected value d e may.0 may.1 may.2 may.3 next own long pre blocks
follows_is v i k (Borrowed j) value d e can may old next own long pre blocks legal =
    let u = viewed v.plan v.seen j (get_or v.records j 0) legal can.2 (old j can.0) in
    follows_of v i k (Borrowed j) value d e u.part u.beginning (may u.part u.beginning u.before)
    (λ x lx. (u.view.each x lx).is) next own long pre blocks

-- the effect of a publication
pub shown_is : (z z' : TableId) (v w : SeatView) (i k : ℕ) (value : List ℕ) → z' ≡ z → v.low ≡ i
    → IsShown v w i k value → v.phase ≡ Stored → Shows (known z v) (known z' w) value
shown_is z z' v w i k value same low s stored = grind (arith, nat_tests, map-append, updates_count)
