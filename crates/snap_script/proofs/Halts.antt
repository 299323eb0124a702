-- The bytes that were taken, with the next one, and how a script ends at it.
use Rattle.std.proofs.Common.{◌≡◌, ◌≢◌, ℕ, ◌≤◌, inl, Option, List, [], ◌∷◌, ◌++◌, length, refl, sym, ap, ◌∙◌, arith}
use Rattle.std.proofs.{Common.append_assoc, Common.append-nil, Common.length-append, lemmas.List.Elements.All-push}
use Rattle.snap_script.specs.Script.{ended, Ends, EndsAt, EndPrints, IsAt}
use Rattle.snap_script.{proofs.Steps.prints, specs.LineBuffer.HasDone, specs.LineBuffer.HasTaken}
use Rattle.snap_script.specs.declared.run.{ScriptEnd.ScriptEnd, TheConstants.MAX_LINE, ScriptEnd.TheVariants.NoMemory}
use Rattle.snap_script.specs.declared.{run.ScriptEnd.TheVariants.TooLong, line_buffer.LineBuffer.LineBuffer}

ended-push : (lines : List (List ℕ)) (line : List ℕ) → ended (lines ++ line ∷ []) ≡ ended lines ++ (line ++ 10 ∷ [])
ended-push [] line = refl
ended-push (l ∷ lines) line = ap (λ t. l ++ 10 ∷ t) (ended-push lines line)
    ∙ sym (append_assoc l (10 ∷ ended lines) (line ++ 10 ∷ []))

-- after these bytes
module _ {taken : List ℕ} {old now : Option (List ℕ)} {buffer : LineBuffer} (t : HasTaken taken old now buffer) where
  abbrev held : List ℕ
  held = buffer.line.items

  grown : (more : List ℕ) → taken ++ more ≡ ended t.done ++ (held ++ more)
  grown more = ap (λ bytes. bytes ++ more) t.whole ∙ append_assoc (ended t.done) held more

  -- the script ends at this line
  pub ends_in : (more : List ℕ) (left new : Option (List ℕ)) (end : ScriptEnd) → EndsAt t.done held more left end
      → EndPrints old new t.done held end → Ends (taken ++ more) left old new end
  ends_in more left new end ends printed =
      let at : IsAt (taken ++ more) t.done held more =
      record { whole = grown more; lines = t.has_done.lines; plain = t.is_line.0 } in
      record { done = t.done; line = held; after = more; at = at; ends = ends; prints = printed }

  -- the line ends here
  pub taken_line : (new : Option (List ℕ)) (next : LineBuffer) → next.line.items ≡ []
      → HasDone (t.done ++ held ∷ []) old new next.interpreter.world → HasTaken (taken ++ 10 ∷ []) old new next
  taken_line new next none h = record {
    done = t.done ++ held ∷ [];
    whole = grown (10 ∷ []) ∙ sym (ended-push t.done held) ∙ sym (append-nil (ended (t.done ++ held ∷ [])))
        ∙ ap (λ line. ended (t.done ++ held ∷ []) ++ line) (sym none);
    is_line = rw none ((λ k d l. absurd (omega arith)), omega arith);
    has_done = h;
  }

  -- the line continues
  module _ (b : ℕ) (no_end : b ≢ 10) where
    at_byte : (more : List ℕ) → IsAt (taken ++ b ∷ more) t.done (held ++ b ∷ []) more
    at_byte more = record {
      whole = grown (b ∷ more) ∙ ap (λ bytes. ended t.done ++ bytes) (sym (append_assoc held (b ∷ []) more));
      lines = t.has_done.lines;
      plain = All-push (λ c. c ≢ 10) held b t.is_line.0 no_end;
    }

    ends_by : (more : List ℕ) (left : Option (List ℕ)) (end : ScriptEnd) → EndsAt t.done (held ++ b ∷ []) more left end
        → EndPrints old now t.done (held ++ b ∷ []) end → Ends (taken ++ b ∷ more) left old now end
    ends_by more left end ends printed =
        record { done = t.done; line = held ++ b ∷ []; after = more; at = at_byte more; ends = ends; prints = printed }

    pub too_long : (more : List ℕ) (left : Option (List ℕ)) (number : ℕ) → MAX_LINE ≤ length held
        → Ends (taken ++ b ∷ more) left old now (TooLong number)
    too_long more left number long =
        ends_by more left (TooLong number) (omega (arith, long, length-append held (b ∷ []))) (prints t.has_done)

    pub no_memory : (more : List ℕ) (left : Option (List ℕ)) → Ends (taken ++ b ∷ more) left old now NoMemory
    no_memory more left = ends_by more left NoMemory
        (inl (λ none. omega (arith, length-append held (b ∷ []), ap length none))) (prints t.has_done)
