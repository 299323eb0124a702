-- The bytes that a program reads from and writes to its streams, as far as they are known.
use Rattle.std.specs.Prelude.{◌≡◌, ◌<◌, ◌⊎◌, ℕ, Bool, true, false, List, ◌++◌, length, Option, IfSome, codes, take}
use Rattle.std.specs.Prelude.{string_bytes, String}
use Rattle.std.specs.{Global.Global, Option.option_map, Fmt.Cut.EndsInDots, Io.KnownBytes.Appends}
use Rattle.snap_disk.specs.{Refusal.refusal_text, declared.refusal.Refusal.Refusal}
use Rattle.snap_order.specs.declared.complaint.TheConstants.{IN_PLACE}

-- a beginning of these bytes was written
abbrev pub AppendsBeginning : Option (List ℕ) → Option (List ℕ) → List ℕ → Type 0
AppendsBeginning old new bytes = (p : ℕ) × Appends old new (take p bytes)

-- a beginning of these bytes was written, but not all of them
abbrev pub AppendsLess : Option (List ℕ) → Option (List ℕ) → List ℕ → Type 0
AppendsLess old new bytes = (p : ℕ) × (p < length bytes) × Appends old new (take p bytes)

-- standard error got a beginning of these lines, and all of them if `is_told`
abbrev pub SaysLines : List ℕ → (is_told : Bool) (old new : Option (List ℕ)) → Type 0
SaysLines lines is_told old new = AppendsBeginning old new lines × (is_told ≡ true → Appends old new lines)

-- the reader had exactly these bytes, if its bytes are known
abbrev pub Had : Option (List ℕ) → List ℕ → Type 0
Had known v = IfSome known (λ xs. xs ≡ v)

-- the line of a refusal
abbrev pub refused_line : Refusal → List ℕ
refused_line why = codes "snapd: refused " ++ (refusal_text why ++ codes "\n")

-- the line of a text
abbrev pub complaint_line : List ℕ → List ℕ
complaint_line text = codes "snapd: " ++ (text ++ codes "\n")

-- the line of a text about a file
abbrev pub file_line : (file text : List ℕ) → List ℕ
file_line file text = codes "snapd: " ++ (file ++ (codes ": " ++ (text ++ codes "\n")))

-- a line that begins with the file's name
abbrev pub NamesFile : (file : List ℕ) → List ℕ → Type 0
NamesFile file line = (text : List ℕ) × (line ≡ file_line file text)

-- the bytes of a text, if there is one
abbrev pub text_of : Option (String Global) → Option (List ℕ)
text_of text = option_map (λ t. string_bytes t) text

-- the text is the known one, if it is known
abbrev pub IsText : (known : Option (List ℕ)) (text : List ℕ) → Type 0
IsText known text = IfSome known (λ bytes. text ≡ bytes)

-- Standard error got the whole line of the text if `is_told`. If not, it got less than the line,
-- or, if memory ran out, a beginning of the line of the text cut to the fixed buffer.
abbrev pub Complains : (known : Option (List ℕ)) (is_told : Bool) (old new : Option (List ℕ)) → Type 0
Complains known true old new = (text : List ℕ) × IsText known text × Appends old new (complaint_line text)
Complains known false old new = (text : List ℕ) × ((IsText known text × AppendsLess old new (complaint_line text))
    ⊎ (EndsInDots IN_PLACE text × AppendsBeginning old new (complaint_line text)))
