-- The lines on standard error for a refused file.
use Rattle.std.proofs.Common.{◌≡◌, ◌++◌, ℕ, List, [], Bool, false, Option, Some, None, IfSome, IsNone, String, Global}
use Rattle.std.proofs.Common.{string_bytes, refl}
use Rattle.snap_disk.specs.declared.refusal.Refusal.{Refusal}
use Rattle.snap_order.specs.Streams.{SaysLines, refused_line}
use Rattle.snap_serve.specs.{declared.fault.HostFault.TheVariants.Refused, Serve.IsRemedy, Serve.SaysFailure}

pub remedied : {F : Type 0} (path : F → List ℕ) (files : List F) (segment : ℕ) (why : Refusal)
    (len : ℕ) (more : Option (String Global)) (told : Bool) (old new : Option (List ℕ))
    → IfSome more (λ m. IsRemedy path files segment why (string_bytes m))
    → ((line : List ℕ) → IfSome more (λ m. string_bytes m ≡ line) → SaysLines (refused_line why ++ line) told old new)
    → (IsNone more → told ≡ false) → SaysFailure path files (Refused segment why len) told old new
remedied path files segment why len (Some m) told old new is says none =
    (string_bytes m, says (string_bytes m) refl, λ yes. is)
remedied path files segment why len None told old new is says none =
    ([], says [] tt, λ yes. let no = none refl in absurd (cc))
