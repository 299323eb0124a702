use Rattle.std.proofs.Common.{◌≡◌, ◌⊎◌, inl, inr, ℕ, List}
use Rattle.snap_script.specs.{Words.words_of, Line.HasForm, declared.verb.Verb.Verb}
use Rattle.snap_script.proofs.Parts.{parts-ne-nil}
use Rattle.snap_world.specs.declared.event.Event.{Event}
use Rattle.snap_script.specs.declared.verb.Verb.TheVariants as verb
use Rattle.snap_script.proofs.line.event_of.Goals as goal

-- the verbs that no word follows
bare : (v : Verb) (line : List ℕ) → (v ≡ verb.Restart) ⊎ ((v ≡ verb.RestartCall) ⊎ (v ≡ verb.Serve))
    → (e : Event) → HasForm v (words_of line) e → ⊥
bare v line (inl is) e form = parts-ne-nil 32 line (rw is at form).1
bare v line (inr (inl is)) e form = parts-ne-nil 32 line (rw is at form).1
bare v line (inr (inr is)) e form = parts-ne-nil 32 line (rw is at form).1

pub returns-in-Restart : goal.returns-in-Restart
returns-in-Restart c = bare c.args.verb c.args.operands.now c.in-Restart.is
