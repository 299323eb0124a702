use Rattle.std.proofs.Common.{◌≡◌, ◌≢◌, ℕ, ◌≤◌, Option, List, [], ◌∷◌, ◌++◌, Result, Ok, Err, length, refl, arith}
use Rattle.std.{specs.Prelude.OnOk, proofs.lemmas.Bool.Decides.nat_tests, proofs.lemmas.Result.IfErr-weaker}
use Rattle.snap_script.proofs.Halts.{ends_in, no_memory, taken_line, too_long}
use Rattle.snap_script.specs.{LineBuffer.HasDone, Script.IsLine, declared.run.TheConstants.MAX_LINE}
use Rattle.snap_script.proofs.line_buffer.LineBuffer.take_byte.Goals as goal

-- what follows from two facts of a call that succeeded
on_both : {X E A B C : Type 0} (r : Result X E) → OnOk r A → OnOk r B → (A → B → C) → OnOk r C
on_both (Ok x) a b f = f a b
on_both (Err e) a b f = tt

pub returns-then-byte-eq10-clause-ok : goal.returns-then-byte-eq10-clause-ok
returns-then-byte-eq10-clause-ok g c =
    on_both {A = c.do_line.new.self.line.items ≡ []} {B = (done : List (List ℕ)) (old : Option (List ℕ))
    → IsLine c.args.self.now.line.items
    → HasDone done old (g.W.Write.contents c.args.writer.now) c.args.self.now.interpreter.world
    → HasDone (done ++ c.args.self.now.line.items ∷ []) old
    (g.W.Write.contents c.do_line.new.writer) c.do_line.new.self.interpreter.world}
    c.do_line.result c.do_line.ensures.empty c.do_line.ensures.ok
    (λ none ok taken old t. rw c.if-byte-eq10.true
    (taken_line t _ _ none (ok t.done old t.is_line t.has_done)))

pub returns-then-byte-eq10-clause-err : goal.returns-then-byte-eq10-clause-err
returns-then-byte-eq10-clause-err g c = IfErr-weaker c.do_line.result _ _ (λ end err taken rest left old t.
    let halts = err t.done old t.is_line t.has_done in
    rw c.if-byte-eq10.true (ends_in t (10 ∷ rest) left _ end (halts.0 (10 ∷ rest) left refl) halts.1))
    c.do_line.ensures.err

pub returns-then-len-ge-MAX_LINE-clause-err : goal.returns-then-len-ge-MAX_LINE-clause-err
returns-then-len-ge-MAX_LINE-clause-err g c = λ taken rest left old t.
    let no_end : c.args.byte ≢ 10 = grind (arith, nat_tests) in
    let long : MAX_LINE ≤ length c.args.self.now.line.items = grind (arith, nat_tests) in
    too_long t c.args.byte no_end rest left _ long

pub returns-in-Err-clause-err : goal.returns-in-Err-clause-err
returns-in-Err-clause-err g c = λ taken rest left old t.
    let no_end : c.args.byte ≢ 10 = grind (arith, nat_tests) in
    no_memory t c.args.byte no_end rest left
