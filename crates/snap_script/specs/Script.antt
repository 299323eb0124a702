-- The output of a script, for each end.
use Rattle.std.specs.Prelude.{◌≡◌, ◌≢◌, ◌<◌, ◌≤◌, ◌⊎◌, ℕ, List, [], ◌∷◌, ◌++◌, length, take, All, Option}
use Rattle.std.specs.List.{AllZip}
use Rattle.std.specs.Io.KnownBytes.{Appends, Consumes, IsAtEnd}
use Rattle.snap_order.specs.declared.status.Status.{Status}
use Rattle.snap_script.specs.Line.{IsWorldLine, IsEventLine}
use Rattle.snap_script.specs.Text.{world_text, line_text, replies_text}
use Rattle.snap_script.specs.declared.run.ScriptEnd.TheVariants.{Done, BadLine, TooLong, NoMemory, ReadFailed}
use Rattle.snap_script.specs.declared.run.ScriptEnd.TheVariants.{WriteFailed}
use Rattle.snap_script.specs.declared.run.{ScriptEnd.ScriptEnd, TheConstants.MAX_LINE}
use Rattle.snap_disk.specs.Device.{Device}
use Rattle.snap_world.specs.Start.{start_state, start_world_phases, AreFormatted}
use Rattle.snap_world.specs.{Runs.Configuration, Runs.Run, declared.event.Event.Event, declared.event.Reply.Reply}
use Rattle.snap_order.specs.declared.status.Status.TheVariants as status

-- empty lines are skipped
abbrev pub full_lines : List (List ℕ) → List (List ℕ)
full_lines [] = []
full_lines ([] ∷ lines) = full_lines lines
full_lines ((b ∷ line) ∷ lines) = (b ∷ line) ∷ full_lines lines

-- a new world of n segments and s scanners, with these devices
abbrev pub start_configuration : ℕ → ℕ → List Device → Configuration
start_configuration n s devices = record {
  state = start_state n s;
  phases = start_world_phases n s;
  devices = devices;
}

-- the first line makes a world of n segments and s scanners, and the others are events that may get
-- replies, from a new such world to configuration b, which are printed as this text
pub record Plays (first : List ℕ) (lines : List (List ℕ)) (text : List ℕ) (n : ℕ)
    (b : Configuration) : Type 0 where
  pub s : ℕ
  pub is_world : IsWorldLine first n s
  pub devices : List Device
  pub formatted : AreFormatted n devices
  pub events : List Event
  -- each line is the event at its index
  pub are_events : AllZip IsEventLine lines events
  pub replies : List Reply
  pub run : Run n (start_configuration n s devices) events replies b
  pub printed : text ≡ line_text (world_text n s) ++ replies_text replies

-- the text that a world may print for these lines
abbrev pub MayPrint : List (List ℕ) → List ℕ → Type 0
MayPrint [] text = text ≡ []
MayPrint (first ∷ lines) text = (n : ℕ) × (b : Configuration) × Plays first lines text n b

-- the writer holds more than before by what a world may print for these lines
abbrev pub Prints : Option (List ℕ) → Option (List ℕ) → List (List ℕ) → Type 0
Prints old new lines = (text : List ℕ) × MayPrint lines text × Appends old new text

-- or by a beginning of that
abbrev pub PrintsPart : Option (List ℕ) → Option (List ℕ) → List (List ℕ) → Type 0
PrintsPart old new lines = (text : List ℕ) × MayPrint lines text × (m : ℕ) × Appends old new (take m text)

-- a line has no LF
abbrev pub IsPlain : List ℕ → Type 0
IsPlain line = All (λ b. b ≢ 10) line

-- and isn't too long
abbrev pub IsLine : List ℕ → Type 0
IsLine line = IsPlain line × (length line ≤ MAX_LINE)

-- these lines, each with the LF that ends it
abbrev pub ended : List (List ℕ) → List ℕ
ended [] = []
ended (line ∷ lines) = line ++ (10 ∷ ended lines)

-- the bytes are those of these lines, then a line or a beginning of one, and what follows that
pub record IsAt (taken : List ℕ) (done : List (List ℕ)) (line after : List ℕ) : Type 0 where
  pub whole : taken ≡ ended done ++ (line ++ after)
  pub lines : All IsLine done
  pub plain : IsPlain line

-- the line before these bytes is whole: LF follows it, or nothing, where the reader has no more
abbrev pub IsEnded : (after : List ℕ) (left : Option (List ℕ)) → Type 0
IsEnded [] left = IsAtEnd left
IsEnded (b ∷ after) left = b ≡ 10

-- the line after these can't be read: it makes no world, or is no event
abbrev pub IsUnreadable : List (List ℕ) → List ℕ → Type 0
IsUnreadable [] line = (n s : ℕ) → IsWorldLine line n s → ⊥
IsUnreadable (first ∷ lines) line = (e : Event) → IsEventLine line e → ⊥

-- How a script ends at this line, once those before it were done. What is `after` it was read, and what is `left`
-- wasn't.
abbrev pub EndsAt : (done : List (List ℕ)) (line after : List ℕ) (left : Option (List ℕ)) → ScriptEnd → Type 0
-- it was the last line
EndsAt done line after left Done = (after ≡ []) × IsAtEnd left × IsLine line
EndsAt done line after left (BadLine number fault) =
    (line ≢ []) × IsLine line × IsEnded after left × IsUnreadable (full_lines done) line
EndsAt done line after left (TooLong number) = MAX_LINE < length line
-- memory ran out in the line, or before the first one
EndsAt done line after left NoMemory = (line ≢ []) ⊎ (done ≡ [])
EndsAt done line after left (ReadFailed error) = after ≡ []
-- the writer failed in the line's text
EndsAt done line after left (WriteFailed error) = IsLine line × IsEnded after left

-- the output: the text of the lines before this one, and of this one, if it was done, or a beginning if the writer
-- failed
abbrev pub EndPrints : (old new : Option (List ℕ)) (done : List (List ℕ)) (line : List ℕ) → ScriptEnd → Type 0
EndPrints old new done line Done = Prints old new (full_lines (done ++ line ∷ []))
EndPrints old new done line (WriteFailed error) = PrintsPart old new (full_lines (done ++ line ∷ []))
EndPrints old new done line end = Prints old new (full_lines done)

-- a script ends so after these bytes were read; a writer that held the old bytes holds the new ones
pub record Ends (taken : List ℕ) (left old new : Option (List ℕ)) (end : ScriptEnd) : Type 0 where
  pub done : List (List ℕ)
  pub line : List ℕ
  pub after : List ℕ
  pub at : IsAt taken done line after
  pub ends : EndsAt done line after left end
  pub prints : EndPrints old new done line end

-- the input and output of a script, and how it ends
abbrev pub Runs : (read_old read_new written_old written_new : Option (List ℕ)) → ScriptEnd → Type 0
Runs read_old read_new written_old written_new end =
    (taken : List ℕ) × Consumes read_old read_new taken × Ends taken read_new written_old written_new end

abbrev pub status_of : ScriptEnd → Status
status_of Done = status.Done
status_of (BadLine number fault) = status.Misused
status_of (TooLong number) = status.Misused
status_of NoMemory = status.Refused
status_of end = status.Failed
