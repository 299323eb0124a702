-- The abstract states that the actors of a world represent. They store no history.
use Rattle.std.specs.Prelude.{◌≡◌, ℕ, ◌+◌, ◌<◌, ◌≤◌, Bool, true, false, List, length}
use Rattle.snap_history.specs.History.{Update, from_nothing, number_after}
use Rattle.snap_history.specs.{Pairs.Pairs, Limits.IsNumber, Limits.IsShort, declared.limits.TheConstants.MAX_COUNT}
use Rattle.snap_world.specs.Answers.{ScanState, IsAnswer, number_at, all_of, set_of}
use Rattle.snap_world.specs.inside.Gathers.{Gathers, IsSeen, IsUnderWay, RegistersStand}
use Rattle.snap_world.specs.Machine.{State, WriterState, ScannerState, Free, Begun, Shown, Closed, Opened}
use Rattle.snap_world.specs.declared.{collector.Collector.Collector, actors.Actors.Actors}
use Rattle.snap_world.specs.declared.{writer.WriterActor.WriterActor}
use Rattle.snap_world.specs.declared.{writer.WriterPhase.WriterPhase, scanner.ScannerActor.ScannerActor}
use Rattle.snap_world.specs.declared.scanner.ScannerPhase.{ScannerPhase}
use Rattle.snap_world.specs.declared.writer.WriterPhase.TheVariants as writer
use Rattle.snap_world.specs.declared.scanner.ScannerPhase.TheVariants as scanner

-- The writer has begun an update of segment i with its value, and its embedded scan began after the segment's update
-- before. History h is the actors', and g the length that it had when the node last began to serve.
pub record HasBegun (n : ℕ) (h : List Update) (g i : ℕ) (v : List ℕ) (c : Collector)
    (s : WriterState) : Type 0 where
  pub born : g ≤ s.scan.start
  pub pending : s.pending ≡ Begun v
  pub fits : IsShort v
  pub room : IsNumber (number_after from_nothing h i + 1)
  pub own : number_at h s.scan.start i ≡ number_after from_nothing h i
  pub gathers : Gathers n (all_of n) h s.scan c

-- the scan of this set has its answer, and the collector has it
abbrev pub HasAnswer : ℕ → List Update → ScanState → Collector → Type 0
HasAnswer set h s c = IsAnswer set h s (IsSeen set h c.memory.items)

abbrev pub IsAtPhase : ℕ → List Update → ℕ → ℕ → WriterActor → WriterState → WriterPhase → Type 0
IsAtPhase n h g i w s writer.Idle = s.pending ≡ Free
IsAtPhase n h g i w s writer.Scanning = HasBegun n h g i w.value w.collector s × IsUnderWay w.collector
IsAtPhase n h g i w s writer.Storing = HasBegun n h g i w.value w.collector s
    × HasAnswer (all_of n) h s.scan w.collector
IsAtPhase n h g i w s writer.Stored = HasBegun n h g i w.value w.collector s × HasAnswer (all_of n) h s.scan w.collector
IsAtPhase n h g i w s writer.Shown = (v : List ℕ) × (s.pending ≡ Shown v)
IsAtPhase n h g i w s writer.Fenced = (v : List ℕ) × (s.pending ≡ Begun v)

abbrev pub is_fenced : WriterPhase → Bool
is_fenced writer.Fenced = true
is_fenced phase = false

pub record WriterStands (n : ℕ) (h : List Update) (g i : ℕ) (w : WriterActor)
    (s : WriterState) : Type 0 where
  pub size : length w.collector.memory.items ≡ n
  pub fenced : s.fenced ≡ is_fenced w.phase
  pub phase : IsAtPhase n h g i w s w.phase

abbrev pub IsScannerAt : ℕ → List Update → ℕ → ScannerActor → ScannerState → ScannerPhase → Type 0
IsScannerAt n h g c s scanner.Idle = s ≡ Closed
IsScannerAt n h g c s scanner.Scanning = (scan : ScanState) × (s ≡ Opened c.asked scan) × (g ≤ scan.start)
    × Gathers n (set_of n c.asked) h scan c.collector × IsUnderWay c.collector
IsScannerAt n h g c s scanner.Ready = (scan : ScanState) × (s ≡ Opened c.asked scan) × (scan.last ≤ length h)
    × HasAnswer (set_of n c.asked) h scan c.collector

pub record ScannerStands (n : ℕ) (h : List Update) (g i : ℕ) (c : ScannerActor)
    (s : ScannerState) : Type 0 where
  pub size : length c.collector.memory.items ≡ n
  pub phase : IsScannerAt n h g c s c.phase

-- the actors represent this state
pub record ActorsStand (w : Actors) (x : State) : Type 0 where
  pub least : 0 < w.segments
  pub most : w.segments ≤ MAX_COUNT
  -- the length of the history when the node last began to serve
  pub since : ℕ
  pub within : since ≤ length x.history
  pub registers : RegistersStand w.segments x since w.registers.items
  pub writers_n : length w.writers.items ≡ w.segments
  pub writers : Pairs (WriterStands w.segments x.history since) w.writers.items x.writers
  pub scanners : Pairs (ScannerStands w.segments x.history since) w.scanners.items x.scanners

-- the actors represent some state
abbrev pub Stand : Actors → Type 0
Stand w = ∥ ((x : State) × ActorsStand w x) ∥₁
