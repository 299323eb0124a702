-- The phases of writers and scanners, what a scanner is asked for, and its reply.
use Rattle.std.specs.Prelude.{◌≡◌, ℕ, List, map}
use Rattle.snap_world.specs.{Answers.pair_of, inside.Gathers.entry_in, Phases.Phases}
use Rattle.snap_world.specs.declared.{event.Event.Event, scanner.Asked.Asked, event.Reply.Reply, actors.Actors.Actors}
use Rattle.snap_world.specs.declared.event.Event.TheVariants.{Scan, Pick}
use Rattle.snap_world.specs.declared.scanner.Asked.TheVariants.{All, Only}
use Rattle.snap_world.specs.declared.event.Reply.TheVariants.{Memory, Part}
use Rattle.snap_scan.specs.Sets.{named}

-- the phases of its writers and scanners
abbrev pub phases_of_actors : Actors → Phases
phases_of_actors w = record {
  writers = map (λ a. a.phase) w.writers.items;
  scanners = map (λ c. c.phase) w.scanners.items;
}

-- the event by which a scanner is asked for these segments
abbrev pub asking : ℕ → Asked → Event
asking i All = Scan i
asking i (Only set) = Pick i set

-- the reply has, of this memory, the segments that were asked for
abbrev pub IsReplyOf : Asked → List (List ℕ) → Reply → Type 0
IsReplyOf All memory (Memory m) = map (λ v. v.items) m.items ≡ memory
IsReplyOf (Only set) memory (Part m) = map pair_of m.items ≡ map (entry_in memory) (named set.bits)
IsReplyOf asked memory reply = ⊥
