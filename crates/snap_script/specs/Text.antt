-- The printed text.
use Rattle.std.specs.Prelude.{ℕ, List, [], ◌∷◌, ◌++◌, flat_map, codes}
use Rattle.std.specs.Fmt.{decimal}
use Rattle.snap_order.specs.Hex.{hex_text}
use Rattle.snap_world.specs.declared.event.Kind.TheVariants.{Write, Sync, Read}
use Rattle.snap_world.specs.declared.event.Reply.TheVariants.{Begun, Number, Called, DeviceFailed, Shown, Stored}
use Rattle.snap_world.specs.declared.event.Reply.TheVariants.{ScanBegun, Memory, Part, Crashed, Restarting, NotNow}
use Rattle.snap_world.specs.declared.event.{PartEntry.PartEntry, Kind.Kind, Reply.Reply}
use Rattle.snap_world.specs.persist.Write.TheVariants as write

-- the name of a device call
abbrev pub kind_text : Kind → List ℕ
kind_text (Write write.Close) = codes "close"
kind_text (Write write.Body) = codes "body"
kind_text (Write write.Open) = codes "open"
kind_text Sync = codes "sync"
kind_text Read = codes "read"

-- a value, after a space
abbrev pub value_text : List ℕ → List ℕ
value_text bytes = codes " " ++ hex_text bytes

-- a segment and its value, after a space
abbrev pub entry_text : PartEntry → List ℕ
entry_text e = codes " " ++ (decimal e.segment ++ (codes "=" ++ hex_text e.value.items))

-- the printed form of a reply
abbrev pub reply_text : Reply → List ℕ
reply_text Begun = codes "begun"
reply_text (Number k) = codes "number " ++ decimal k
reply_text (Called kind) = codes "called " ++ kind_text kind
reply_text DeviceFailed = codes "device failed"
reply_text Shown = codes "shown"
reply_text (Stored k) = codes "stored " ++ decimal k
reply_text ScanBegun = codes "scanning"
reply_text (Memory values) = codes "memory" ++ flat_map (λ v. value_text v.items) values.items
reply_text (Part entries) = codes "part" ++ flat_map entry_text entries.items
reply_text Crashed = codes "crashed"
reply_text Restarting = codes "restarting"
reply_text NotNow = codes "not now"

-- a new world is printed as its line, the numbers without leading zeros
abbrev pub world_text : ℕ → ℕ → List ℕ
world_text n s = codes "world " ++ decimal n ++ codes " " ++ decimal s

-- a line ends with LF
abbrev pub line_text : List ℕ → List ℕ
line_text text = text ++ 10 ∷ []

-- a line for each reply
abbrev pub replies_text : List Reply → List ℕ
replies_text [] = []
replies_text (reply ∷ replies) = line_text (reply_text reply) ++ replies_text replies
