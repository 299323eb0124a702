-- The scanners of one memory.
use Rattle.std.specs.Prelude.{◌≡◌, ◌+◌, ◌≤◌, ℕ, List, [], ◌∷◌, slice_get, Option, Some, None}
use Rattle.snap_memory.specs.{Registers.RegistersId, Registers.no_registers, plan.Plan.Plan, Seat.Known}
use Rattle.snap_restart.specs.Crash.{AreOpened}
use Rattle.snap_service.specs.Memory.{IsOf, no_plan, number_of}
use Rattle.snap_writer.specs.Writer.{WriterState}
use Rattle.snap_disk.specs.declared.disk.Disk as Disk

-- these are scanners of these registers
abbrev pub AreScanners : RegistersId → Plan → List Known → Type 0
AreScanners table plan scanners = (k : ℕ) (b : Known) → slice_get scanners k ≡ Some b → IsOf table plan b

-- a listener's connections may be answered from the memory of these scanners
abbrev pub MayServe : (may_serve : ℕ → Type 0) → List Known → Type 0
MayServe may_serve scanners = (k : ℕ) (b : Known) → slice_get scanners k ≡ Some b → may_serve (number_of b.table)

-- a listener's connections may be answered from the memory that is opened from these devices
abbrev pub MayServeOpened : {D : Type 0} (disk : Disk.Ghosts D) (may_serve : ℕ → Type 0) → List D → Type 0
MayServeOpened {D} disk may_serve devices = (writers : List (WriterState D)) → AreOpened disk devices writers
    → (i : ℕ) (w : WriterState D) → slice_get writers i ≡ Some w → may_serve (number_of w.seat.table)

-- the registers of the first scanner
abbrev pub table_of : List Known → RegistersId
table_of [] = no_registers
table_of (b ∷ rest) = b.table

abbrev pub plan_of : List Known → Plan
plan_of [] = no_plan
plan_of (b ∷ rest) = b.plan

-- there are metrics for each worker: for each scanner, except the observer's
abbrev pub HasMetrics : {O : Type 0} (observer : Option O) (scanners workers : ℕ) → Type 0
HasMetrics observer scanners workers = (observer ≡ None → scanners ≤ workers) × (scanners ≤ workers + 1)
