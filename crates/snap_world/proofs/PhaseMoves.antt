-- Reading and moving the phases of the actors.
-- the actors with one writer, or one scanner, changed
use Rattle.snap_world.specs.Phases.{WriterIs, ScannerIs, writer_to, scanner_to}
use Rattle.std.proofs.Common.{rules, ◌≡◌, ℕ, ◌<◌, length, get_or, Some, slice_get, ◌∙◌, arith}
use Rattle.snap_world.proofs.{Elements.map_within, Elements.map_read}
use Rattle.snap_world.specs.{inside.Steps.phases_of_actors, inside.Stands.ActorsStand, Machine.State}
use Rattle.snap_world.specs.{declared.scanner.ScannerActor.ScannerActor, declared.scanner.ScannerPhase.ScannerPhase}
use Rattle.snap_world.specs.{declared.actors.Actors.Actors, declared.writer.WriterActor.WriterActor}
use Rattle.snap_world.specs.{declared.writer.WriterPhase.WriterPhase}
use Rattle.std.proofs.{Math.Seq.map-set_same, lemmas.List.map-set, lemmas.List.length-map}
use Rattle.std.specs.{Vec.vec_len, Vec.with_item}

abbrev pub with_actors_writer : Actors → ℕ → WriterActor → Actors
with_actors_writer w i a = record w { writers = with_item w.writers i a }

abbrev pub with_actors_scanner : Actors → ℕ → ScannerActor → Actors
with_actors_scanner w i a = record w { scanners = with_item w.scanners i a }

module _ (w : Actors) (i : ℕ) where
  -- a writer in this phase exists, and the one that was read is that writer
  module _ {p : WriterPhase} (is : WriterIs (phases_of_actors w) i p) where
    pub writer_there : i < length w.writers.items
    writer_there = map_within (λ (v : WriterActor). v.phase) w.writers.items i p is

    pub writer_fits : i < vec_len w.writers
    writer_fits = let there = writer_there in omega (arith, w.writers.ok.0)

    pub writer_read : (a : WriterActor) → a ≡ get_or w.writers.items i a
        → (slice_get w.writers.items i ≡ Some a) × (a.phase ≡ p)
    writer_read = map_read (λ (v : WriterActor). v.phase) w.writers.items i p is

  module _ {p : ScannerPhase} (is : ScannerIs (phases_of_actors w) i p) where
    pub scanner_there : i < length w.scanners.items
    scanner_there = map_within (λ (v : ScannerActor). v.phase) w.scanners.items i p is

    pub scanner_read : (a : ScannerActor) → a ≡ get_or w.scanners.items i a
        → (slice_get w.scanners.items i ≡ Some a) × (a.phase ≡ p)
    scanner_read = map_read (λ (v : ScannerActor). v.phase) w.scanners.items i p is

  -- the phases after one writer or one scanner has moved, or has kept its phase
  pub writer_moved : (a : WriterActor)
      → phases_of_actors (with_actors_writer w i a) ≡ writer_to (phases_of_actors w) i a.phase
  writer_moved a = search (rules, map-set)

  pub writer_kept : (a old : WriterActor) → old ≡ get_or w.writers.items i old → a.phase ≡ old.phase
      → phases_of_actors (with_actors_writer w i a) ≡ phases_of_actors w
  writer_kept a old read e = search (rules, map-set_same)

  pub scanner_moved : (a : ScannerActor)
      → phases_of_actors (with_actors_scanner w i a) ≡ scanner_to (phases_of_actors w) i a.phase
  scanner_moved a = search (rules, map-set)

  pub scanner_kept : (a old : ScannerActor) → old ≡ get_or w.scanners.items i old → a.phase ≡ old.phase
      → phases_of_actors (with_actors_scanner w i a) ≡ phases_of_actors w
  scanner_kept a old read e = search (rules, map-set_same)

-- each segment has a writer
pub writers_phases : (w : Actors) (x : State) → ActorsStand w x → length (phases_of_actors w).writers ≡ w.segments
writers_phases w x stands = length-map w.writers.items (λ v. v.phase) ∙ stands.writers_n
