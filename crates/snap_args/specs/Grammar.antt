-- The commands and their arguments as the parser takes them.
use Rattle.std.specs.Prelude.{[], ◌∷◌, Some, false, true, codes, pos}
use Rattle.clap.specs.Words.{App, Rule, Shape, Text, new_app, new_rule, with_rule, with_subcommand}
use Rattle.clap.specs.declared.builder.ArgAction.TheVariants.{Append, Set, SetTrue}
use Rattle.clap.specs.declared.builder.value_parser.ValueParser.TheVariants as parser

-- a required argument
abbrev pub word_rule : Text → Rule
word_rule name = record (new_rule name) { value_names = 1; required = true; action = Some Set }

-- one argument or more
abbrev pub words_rule : Text → Rule
words_rule name = record (word_rule name) { action = Some Append }

-- any number of arguments
abbrev pub free_words_rule : Text → Rule
free_words_rule name = record (words_rule name) { required = false }

-- an optional option with a text
abbrev pub text_rule : Text → Rule
text_rule name = record (new_rule name) { long = Some name; value_names = 1 }

-- an optional option with a text, which may be repeated
abbrev pub texts_rule : Text → Rule
texts_rule name = record (text_rule name) { action = Some Append }

-- an option with a text, and its default
abbrev pub choice_rule : Text → Text → Rule
choice_rule name default = record (text_rule name) { defaults = default ∷ [] }

-- an optional option with a number from 0 to 255
abbrev pub free_number_rule : Text → Rule
free_number_rule name = record (text_rule name) { parser = Some (parser.Signed (pos 0) (pos 255)) }

-- an option with a number from 0 to 255, and its default
abbrev pub number_rule : Text → Text → Rule
number_rule name default = record (free_number_rule name) { defaults = default ∷ [] }

-- an optional option with a number of 64 bits
abbrev pub large_number_rule : Text → Rule
large_number_rule name = record (text_rule name) { parser = Some (parser.Unsigned 0 18446744073709551615) }

-- an option without a value
abbrev pub flag_rule : Text → Rule
flag_rule name = record (new_rule name) { long = Some name; action = Some SetTrue }

abbrev pub filed : App → App
filed app = with_rule app (word_rule (codes "file"))

-- adds the arguments of `check`: a file, the output format, and a slot whose value is printed
abbrev pub checked : App → App
checked app = with_rule (with_rule (with_rule (filed app) (flag_rule (codes "json")))
    (text_rule (codes "slot"))) (flag_rule (codes "value"))

-- adds the place of a segment
abbrev pub placed : App → App
placed app = with_rule (with_rule app (number_rule (codes "index") (codes "0")))
    (number_rule (codes "count") (codes "1"))

-- adds an old file, a new one and their place
abbrev pub paired : App → App
paired app = placed (with_rule (with_rule app (word_rule (codes "old"))) (word_rule (codes "new")))

-- adds a folder, the number of its segments, and whether missing ones are made empty
abbrev pub founded : App → App
founded app = with_rule (with_rule (with_rule app (word_rule (codes "folder")))
    (number_rule (codes "count") (codes "1"))) (flag_rule (codes "missing-empty"))

-- adds a folder, and whether its disk is measured
abbrev pub examined : App → App
examined app = with_rule (with_rule app (word_rule (codes "folder"))) (flag_rule (codes "measure"))

abbrev pub addressed : App → App
addressed app = with_rule app (word_rule (codes "address"))

-- adds a server's limits and log level
abbrev pub limited : App → App
limited app = with_rule (with_rule (with_rule app (large_number_rule (codes "clients-max")))
    (large_number_rule (codes "idle"))) (choice_rule (codes "log") (codes "info"))

-- adds files, or their folder
abbrev pub supplied : App → App
supplied app = with_rule (with_rule app (free_words_rule (codes "files"))) (text_rule (codes "dir"))

-- adds further addresses, the mode of a socket's file, and the address for HTTP
abbrev pub reached : App → App
reached app = with_rule (with_rule (with_rule app (texts_rule (codes "listen")))
    (choice_rule (codes "socket-mode") (codes "0600"))) (text_rule (codes "http"))

-- adds all arguments of `serve`
abbrev pub served : App → App
served app = limited (with_rule (with_rule (reached (supplied (addressed app)))
    (number_rule (codes "scanners") (codes "4"))) (large_number_rule (codes "connections")))

-- adds a put's value, and the number after which it is stored
abbrev pub stored : App → App
stored app = with_rule (with_rule app (text_rule (codes "value"))) (large_number_rule (codes "after"))

-- adds the output format of a reply
abbrev pub printed : App → App
printed app = with_rule (with_rule app (flag_rule (codes "text"))) (flag_rule (codes "json"))

-- adds the number and the times of tries
abbrev pub tried : App → App
tried app = with_rule (with_rule (with_rule app (number_rule (codes "tries") (codes "1")))
    (large_number_rule (codes "wait"))) (large_number_rule (codes "timeout"))

-- adds all arguments of `call`
abbrev pub called : App → App
called app = printed (stored (tried (with_rule (addressed app) (words_rule (codes "request")))))

-- adds all arguments of `watch`
abbrev pub watched : App → App
watched app = with_rule (with_rule (with_rule (addressed app) (free_words_rule (codes "segments")))
    (large_number_rule (codes "every"))) (flag_rule (codes "json"))

-- adds all arguments of `dump`
abbrev pub dumped : App → App
dumped app = tried (with_rule app (word_rule (codes "holder")))

-- adds all arguments of `load`
abbrev pub loaded : App → App
loaded app = with_rule (with_rule (with_rule app (word_rule (codes "folder")))
    (word_rule (codes "dump"))) (free_number_rule (codes "count"))

-- the command and each command below it print a version
abbrev pub versioned : App → App
versioned app = record app {
  top = record (app.top) { has_version = true; propagate_version = true };
}

abbrev pub top_shape : Shape
top_shape = record ((versioned (new_app (codes "snapd"))).top) { subcommand_required = true }

abbrev pub program_of : App
program_of = record { top = top_shape; subs = [] }

unfoldable pub grammar_of : App
grammar_of = with_subcommand (with_subcommand (with_subcommand (with_subcommand (with_subcommand
    (with_subcommand (with_subcommand (with_subcommand (with_subcommand (with_subcommand
    (with_subcommand (with_subcommand (with_subcommand program_of (placed (filed (new_app (codes "format")))).top)
    (placed (filed (new_app (codes "put")))).top) (placed (filed (new_app (codes "get")))).top)
    (checked (new_app (codes "check"))).top) (paired (new_app (codes "migrate"))).top)
    (founded (new_app (codes "init"))).top) (examined (new_app (codes "doctor"))).top)
    (served (new_app (codes "serve"))).top) (called (new_app (codes "call"))).top)
    (watched (new_app (codes "watch"))).top) (dumped (new_app (codes "dump"))).top)
    (loaded (new_app (codes "load"))).top) (new_app (codes "script")).top
