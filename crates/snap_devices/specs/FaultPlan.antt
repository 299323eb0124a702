-- Which calls are to fail.
use Rattle.std.specs.Prelude.{ℕ, nat_lt, ◌==◌, if◌then◌else◌, List, find, Option, Some, None}
use Rattle.std.specs.Option.{option_map}
use Rattle.snap_disk.specs.declared.fill.Fill.{Fill}
use Rattle.snap_devices.specs.declared.fault_plan.{Fault.Fault, FaultPlan.FaultPlan}

abbrev pub planned_faults : FaultPlan → List Fault
planned_faults plan = plan.faults.items

abbrev pub planned_fuse : FaultPlan → Option Fault
planned_fuse plan = plan.fuse

-- the fill of the first fault of this call
abbrev pub fault_at : List Fault → ℕ → Option Fill
fault_at faults call = option_map (λ fault. fault.fill) (find (λ fault. fault.call == call) faults)

-- a burnt fuse comes first
abbrev pub fused : Option Fault → Option Fill → ℕ → Option Fill
fused None otherwise call = otherwise
fused (Some fuse) otherwise call = if nat_lt fuse.call call then Some fuse.fill else otherwise

-- the fill that the call of this number leaves, if it is planned to fail
abbrev pub planned_fill : FaultPlan → ℕ → Option Fill
planned_fill plan call = fused (planned_fuse plan) (fault_at (planned_faults plan) call) call
