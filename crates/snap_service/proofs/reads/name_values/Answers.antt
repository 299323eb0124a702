use Rattle.std.proofs.Common.{◌≡◌, ℕ, suc, ◌+◌, [], ◌∷◌, ◌++◌, length, map, take, Some, slice_get, get_or, refl, ap}
use Rattle.std.proofs.Common.{sym, subst, ◌∙◌, arith}
use Rattle.std.proofs.lemmas.{List.length-map, List.length_push, List.map-append, Option.slice_get-map, Bool.iff_false}
use Rattle.std.{proofs.lemmas.Option.slice_get_read, specs.Option.option_map, proofs.Math.Seq.take-length}
use Rattle.snap_register.proofs.Pairs.{take_next}
use Rattle.snap_scan.specs.{Sets.Names, Sets.named_below, Values.pair_of}
use Rattle.snap_scan.proofs.Sets.{with, without}
use Rattle.snap_frame.specs.declared.named.NamedValue.{NamedValue}
use Rattle.snap_service.{specs.Answers.segment_of, specs.Answers.named_pair, proofs.Lines.counts}
use Rattle.snap_service.proofs.reads.name_values.Goals.{then-has+in_ok-clone+in_ok-push, else-has}
use Rattle.snap_service.proofs.reads.name_values.Goals as goal

pub loop-segment-init : goal.loop-segment-init
unfolding named_below
loop-segment-init c = rw c.in_ok-list.ensures.items (record { set = refl; names = refl; values = refl })

pub index-entry-requires : goal.index-entry-requires
index-entry-requires c =
    let inv = c.loop-segment.invariant in
    let test = c.loop-segment-test.true in
    let n = ap length inv.names in
    let m = length-map c.loop-segment.list.items segment_of in
    let l = c.len-then-has.ensures in
    let named = subst (Names c.args.set.bits) c.from.ensures (c.has.ensures.names.0 c.if-has.true) in
    let more = counts c.args.set.bits c.loop-segment.segment test named in
    let all = c.requires.each in
    omega arith

pub loop-segment-preserved : goal.loop-segment-preserved
loop-segment-preserved c =
    let inv = c.loop-segment.invariant in
    let set = c.args.set.bits in
    let k : ℕ = c.loop-segment.segment in
    let items = c.loop-segment.list.items in
    let values = c.args.values.now.items in
    let up : suc k ≡ k + 1 = omega arith in
    elim c.if-has.branch [
      | then-has+in_ok-clone+in_ok-push w ↦ (
          let named = subst (Names set) c.from.ensures (c.has.ensures.names.0 w.if-has.true) in
          let x : NamedValue = record {
            segment = k;
            number = w.index-entry.result.now.number;
            value = w.in_ok-clone.field-0;
          } in
          let entry = w.index-entry.result.now in
          let here : slice_get values (length items) ≡ Some entry = (let n = ap length inv.names in
          let m = length-map items segment_of in
          let more = counts set k c.loop-segment-test.true named in
          let all = c.requires.each in
          let same : w.len-then-has.result ≡ length items = (let l = w.len-then-has.ensures in omega arith) in
          slice_get_read values (length values) (length items) entry refl (omega arith)
          (w.index-entry.ensures ∙ ap (λ n. get_or values n entry) same)) in
          let copied : w.in_ok-clone.field-0 ≡ entry.value = w.in_ok-clone.ensures.cases in
          let at : slice_get (map pair_of values) (length items) ≡ Some (named_pair x) =
          slice_get-map pair_of values (length items) ∙ ap (option_map pair_of) here
          ∙ ap (λ v. Some (entry.number, v)) (sym copied) in
          rw w.list-is (record {
            set = refl;
            names = ap (map segment_of) w.in_ok-push.ensures.items ∙ map-append segment_of items (x ∷ [])
                ∙ ap (λ l. l ++ k ∷ []) inv.names ∙ sym (with set k named) ∙ ap (named_below set) up;
            values = ap (map named_pair) w.in_ok-push.ensures.items
                ∙ map-append named_pair items (x ∷ []) ∙ ap (λ l. l ++ named_pair x ∷ []) inv.values
                ∙ sym (take_next (length items) (map pair_of values) (named_pair x) at)
                ∙ ap (λ n. take n (map pair_of values))
                (sym (ap length w.in_ok-push.ensures.items ∙ length_push items x));
          }))
      | else-has w ↦ rw w.list-is (record {
        set = refl;
        names = inv.names ∙ sym (without set k (λ is. iff_false c.has.ensures.names w.if-has.false
            (subst (Names set) (sym c.from.ensures) is))) ∙ ap (named_below set) up;
        values = inv.values;
      })
    ]

pub returns-clause-values : goal.returns-clause-values
returns-clause-values c =
    let inv = c.loop-segment.invariant in
    let done = c.loop-segment-test.false in
    let end = c.loop-segment.auto.segment-end in
    let is : c.loop-segment.segment ≡ 16 = omega arith in
    let n = ap length inv.names ∙ ap (λ v. length (named_below c.args.set.bits v)) is in
    let m = length-map c.loop-segment.list.items segment_of in
    let all = c.requires.each in
    let values = map pair_of c.args.values.now.items in
    let long = length-map c.args.values.now.items pair_of in
    let same : length c.loop-segment.list.items ≡ length values = omega arith in
    inv.values ∙ ap (λ v. take v values) same ∙ take-length values
