-- A script, line by line.
use Rattle.std.proofs.Common.{◌≡◌, ◌≢◌, ℕ, ◌+◌, ◌<◌, Option, Some, None, List, [], ◌∷◌, ◌++◌, length, take, refl, ap}
use Rattle.std.proofs.{Common.arith, KnownBytes.Appends-nil, KnownBytes.Appends-trans, Math.Seq.take-append-add}
use Rattle.std.{specs.Io.KnownBytes.Appends, proofs.lemmas.List.Elements.All-push, proofs.lemmas.List.nil_from_length}
use Rattle.snap_script.specs.Script.{full_lines, IsLine, IsUnreadable, MayPrint, Prints, PrintsPart}
use Rattle.snap_script.specs.{Interpreter.HaltsAt, declared.interpreter.InterpreterFault.TheVariants.Fault}
use Rattle.snap_script.specs.{Interpreter.Played, LineBuffer.HasDone, declared.fault.LineFault.LineFault}
use Rattle.snap_world.specs.declared.world.World.{World}

-- nothing was done
pub done_none : {old : Option (List ℕ)} {world : Option World} → world ≡ None → HasDone [] old old world
done_none {old} none =
    record { lines = λ k d l. absurd (omega arith); text = []; played = rw none refl; wrote = Appends-nil old }

full_lines-push : (lines : List (List ℕ)) (line : List ℕ) → line ≢ []
    → full_lines (lines ++ line ∷ []) ≡ full_lines lines ++ line ∷ []
full_lines-push [] [] some = absurd (some refl)
full_lines-push [] (b ∷ line) some = refl
full_lines-push ([] ∷ lines) line some = full_lines-push lines line some
full_lines-push ((c ∷ l) ∷ lines) line some = ap (λ ls. (c ∷ l) ∷ ls) (full_lines-push lines line some)

full_lines-push_empty : (lines : List (List ℕ)) → full_lines (lines ++ [] ∷ []) ≡ full_lines lines
full_lines-push_empty [] = refl
full_lines-push_empty ([] ∷ lines) = full_lines-push_empty lines
full_lines-push_empty ((c ∷ l) ∷ lines) = ap (λ ls. (c ∷ l) ∷ ls) (full_lines-push_empty lines)

may_print : (lines : List (List ℕ)) (text : List ℕ) (world : Option World) → Played lines text world
    → MayPrint lines text
may_print [] text None h = h
may_print [] text (Some w) h = absurd h
may_print (first ∷ lines) text None h = absurd h
may_print (first ∷ lines) text (Some w) h = (_, _, h.2)

-- a line that the interpreter can't read
pub unreadable : (lines : List (List ℕ)) (text : List ℕ) (world : Option World) (line : List ℕ) (fault : LineFault)
    → Played lines text world → HaltsAt world line (Fault fault) → IsUnreadable lines line
unreadable [] text None line fault played halts = halts
unreadable [] text (Some w) line fault played halts = absurd played
unreadable (first ∷ lines) text None line fault played halts = absurd played
unreadable (first ∷ lines) text (Some w) line fault played halts = halts

pub some_list : (line : List ℕ) → 0 < length line → line ≢ []
some_list line some e = omega (arith, ap length e)

-- after the lines that were done
module _ {done : List (List ℕ)} {old now : Option (List ℕ)} {world : Option World}
    (h : HasDone done old now world) where
  pub prints : Prints old now (full_lines done)
  prints = (h.text, may_print (full_lines done) h.text world h.played, h.wrote)

  -- at a line
  module _ (line : List ℕ) where
    -- an empty line is skipped
    pub done_empty : length line ≡ 0 → IsLine line → HasDone (done ++ line ∷ []) old now world
    done_empty none is = record {
      lines = All-push IsLine done line h.lines is;
      text = h.text;
      played = rw (nil_from_length line none, full_lines-push_empty done) h.played;
      wrote = h.wrote;
    }

    -- a line was done
    module _ (some : 0 < length line) (new : Option World) (out : List ℕ)
        (on : (lines : List (List ℕ)) (text : List ℕ) → Played lines text world
        → Played (lines ++ line ∷ []) (text ++ out) new) where
      played : Played (full_lines (done ++ line ∷ [])) (h.text ++ out) new
      played = rw (full_lines-push done line (some_list line some)) (on (full_lines done) h.text h.played)

      pub done_on : (after : Option (List ℕ)) → IsLine line → Appends now after out
          → HasDone (done ++ line ∷ []) old after new
      done_on after is wrote = record {
        lines = All-push IsLine done line h.lines is;
        text = h.text ++ out;
        played = played;
        wrote = Appends-trans old now after h.text out h.wrote wrote;
      }

      pub prints_part : (after : Option (List ℕ)) (m : ℕ) → Appends now after (take m out)
          → PrintsPart old after (full_lines (done ++ line ∷ []))
      prints_part after m wrote = (
        h.text ++ out,
        may_print (full_lines (done ++ line ∷ [])) (h.text ++ out) new played,
        length h.text + m,
        rw (take-append-add h.text out m) (Appends-trans old now after h.text (take m out) h.wrote wrote),
      )
