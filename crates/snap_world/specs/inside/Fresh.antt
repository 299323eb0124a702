-- The actors and registers of a new world, and a writer or a scanner after a crash.
use Rattle.std.specs.Prelude.{◌≡◌, ℕ, List, [], length, slice_get, Some}
use Rattle.snap_world.specs.declared.{register.Register.Register, writer.WriterActor.WriterActor}
use Rattle.snap_world.specs.declared.{scanner.ScannerActor.ScannerActor}
use Rattle.snap_world.specs.declared.writer.WriterPhase.TheVariants as writer
use Rattle.snap_world.specs.declared.scanner.ScannerPhase.TheVariants as scanner

-- a fact at each element
abbrev pub Each : {A : Type 0} → (A → Type 0) → List A → Type 0
Each {A} P xs = (i : ℕ) (x : A) → slice_get xs i ≡ Some x → P x

pub record IsFreshRegister (n : ℕ) (r : Register) : Type 0 where
  pub number : r.number ≡ 0
  pub value : r.value ≡ []
  pub size : length r.view.items ≡ n

pub record IsFreshWriter (n : ℕ) (w : WriterActor) : Type 0 where
  pub phase : w.phase ≡ writer.Idle
  pub size : length w.collector.memory.items ≡ n

pub record IsFreshScanner (n : ℕ) (c : ScannerActor) : Type 0 where
  pub phase : c.phase ≡ scanner.Idle
  pub size : length c.collector.memory.items ≡ n

-- after a crash: it is idle, and keeps its buffers
pub record IsHalted (a b : WriterActor) : Type 0 where
  pub idle : b.phase ≡ writer.Idle
  pub collector : b.collector ≡ a.collector

pub record IsScannerHalted (a b : ScannerActor) : Type 0 where
  pub idle : b.phase ≡ scanner.Idle
  pub collector : b.collector ≡ a.collector
