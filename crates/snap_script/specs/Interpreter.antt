-- The lines that an interpreter has done.
use Rattle.std.specs.Prelude.{◌≡◌, ℕ, List, [], ◌∷◌, Option, Some, None, ⊤}
use Rattle.snap_script.specs.Line.{IsWorldLine, IsEventLine}
use Rattle.snap_script.specs.declared.interpreter.InterpreterFault.TheVariants.{Fault, NoMemory}
use Rattle.snap_script.specs.{Script.Plays, declared.interpreter.InterpreterFault.InterpreterFault}
use Rattle.snap_world.specs.Surface.{StandsFor, configuration, segments_of}
use Rattle.snap_world.specs.{Machine.State, declared.event.Event.Event, declared.world.World.World}

-- the lines, none of them empty, were done, this text was made of them, and this is the world now
abbrev pub Played : List (List ℕ) → List ℕ → Option World → Type 0
Played [] text None = text ≡ []
Played (first ∷ lines) text (Some w) =
    (y : State) × StandsFor w y × Plays first lines text (segments_of w) (configuration w y)
Played [] text (Some w) = ⊥
Played (first ∷ lines) text None = ⊥

-- why the line isn't done
abbrev pub HaltsAt : Option World → List ℕ → InterpreterFault → Type 0
HaltsAt world line NoMemory = ⊤
HaltsAt None line (Fault fault) = (n s : ℕ) → IsWorldLine line n s → ⊥
HaltsAt (Some w) line (Fault fault) = (e : Event) → IsEventLine line e → ⊥
