-- The phases of writers and scanners.
use Rattle.std.specs.Prelude.{◌≡◌, ℕ, List, Some, slice_get, slice_set}
use Rattle.snap_world.specs.declared.{writer.WriterPhase.WriterPhase, scanner.ScannerPhase.ScannerPhase}

-- the phase of each segment's writer, and of each scanner
pub record Phases : Type 0 where
  pub writers : List WriterPhase
  pub scanners : List ScannerPhase

-- writer w, or scanner i, exists and is in this phase
abbrev pub WriterIs : Phases → ℕ → WriterPhase → Type 0
WriterIs p w phase = slice_get p.writers w ≡ Some phase

abbrev pub ScannerIs : Phases → ℕ → ScannerPhase → Type 0
ScannerIs p i phase = slice_get p.scanners i ≡ Some phase

-- these phases with one writer's, or one scanner's, changed
abbrev pub writer_to : Phases → ℕ → WriterPhase → Phases
writer_to p w phase = record p { writers = slice_set p.writers w phase }

abbrev pub scanner_to : Phases → ℕ → ScannerPhase → Phases
scanner_to p i phase = record p { scanners = slice_set p.scanners i phase }
