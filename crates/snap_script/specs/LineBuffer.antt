-- The lines that were done, and the bytes of the next one.
use Rattle.std.specs.Prelude.{◌≡◌, ℕ, List, ◌++◌, Option, All}
use Rattle.std.specs.Io.KnownBytes.{Appends}
use Rattle.snap_script.specs.Script.{ended, full_lines, EndPrints, EndsAt, IsEnded, IsLine}
use Rattle.snap_script.specs.Interpreter.{Played}
use Rattle.snap_script.specs.declared.{line_buffer.LineBuffer.LineBuffer, run.ScriptEnd.ScriptEnd}
use Rattle.snap_world.specs.declared.world.World.{World}

-- these lines were done, and their text was written
pub record HasDone (done : List (List ℕ)) (old new : Option (List ℕ)) (world : Option World) : Type 0 where
  pub lines : All IsLine done
  pub text : List ℕ
  pub played : Played (full_lines done) text world
  pub wrote : Appends old new text

-- of these bytes all lines but the last one were done, and the last one, which no LF ends, is buffered
pub record HasTaken (taken : List ℕ) (old new : Option (List ℕ)) (buffer : LineBuffer) : Type 0 where
  pub done : List (List ℕ)
  pub whole : taken ≡ ended done ++ buffer.line.items
  pub is_line : IsLine buffer.line.items
  pub has_done : HasDone done old new buffer.interpreter.world

-- why the whole line after those that were done wasn't done, and what was written
abbrev pub Halts : (done : List (List ℕ)) (line : List ℕ) (old new : Option (List ℕ)) → ScriptEnd → Type 0
Halts done line old new end =
    ((after : List ℕ) (left : Option (List ℕ)) → IsEnded after left → EndsAt done line after left end)
    × EndPrints old new done line end
