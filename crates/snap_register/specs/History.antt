-- A history of updates, and each segment's line in it.
use Rattle.std.specs.Prelude.{ℕ, ◌+◌, ◌==◌, cond, List, [], ◌∷◌, length, map, slice_index_or}
use Rattle.snap_register.specs.declared.plan.{Entry.Entry, LookRecord.LookRecord, Start.Start, Plan.Plan}
use Rattle.snap_register.specs.Words.{value_at}
use Rattle.snap_history.specs.History as history

abbrev pub entry : ℕ → List ℕ → Entry
entry i ws = record { segment = i; words = ws }

abbrev pub look_record : List Entry → LookRecord
look_record h = record { seen = h }

-- the entries of segment i, in order
abbrev pub only : ℕ → List Entry → List Entry
only i [] = []
only i (x ∷ xs) = cond (x.segment == i) (x ∷ only i xs) (only i xs)

abbrev pub count : ℕ → List Entry → ℕ
count i h = length (only i h)

abbrev pub no_start : Start
no_start = record { number = 0; words = [] }

abbrev pub start_at : Plan → ℕ → Start
start_at p i = slice_index_or p.start i no_start

-- the number of segment i after the history
abbrev pub number : Plan → List Entry → ℕ → ℕ
number p h i = (start_at p i).number + count i h

-- the record of segment i at the start, then those of its updates
abbrev pub line : Plan → List Entry → ℕ → List Entry
line p h i = entry i (start_at p i).words ∷ only i h

-- the words of record r of segment i
abbrev pub record_words : Plan → List Entry → ℕ → ℕ → List ℕ
record_words p h i r = (slice_index_or (line p h i) r (entry i [])).words

-- the number and the value of each segment after the history
abbrev pub memory : Plan → List Entry → ℕ → ℕ × List ℕ
memory p h i = (number p h i, value_at (record_words p h i (count i h)) 0)

-- the entry as an update of a memory
abbrev pub update_of : Entry → history.Update
update_of e = record { segment = e.segment; value = value_at e.words 0 }

abbrev pub updates : List Entry → List history.Update
updates h = map update_of h

abbrev pub starts : Plan → history.Start
starts p i = ((start_at p i).number, value_at (start_at p i).words 0)
