-- The order `dump`: which arguments ask for which source.
use Rattle.std.specs.Prelude.{◌≡◌, ◌⊎◌, ℕ, Bool, true, false, ◌&&◌, ◌||◌, not, List, [], ◌∷◌, ◌++◌, nat_eq, Option}
use Rattle.std.specs.Prelude.{Some, None, codes, length}
use Rattle.std.specs.{Int.is_in_range, List.list_any}
use Rattle.clap.specs.Words.{Text}
use Rattle.snap_order.specs.declared.order.DumpSource.{DumpSource, TheVariants.Server, TheVariants.Folder}

-- only digits
abbrev pub are_digits : List ℕ → Bool
are_digits [] = true
are_digits (b ∷ bytes) = is_in_range 48 57 b && are_digits bytes

-- only digits, and at least one
abbrev pub is_port : List ℕ → Bool
is_port bytes = not (nat_eq (length bytes) 0) && are_digits bytes

-- it ends in a colon and a port
abbrev pub ends_in_port : List ℕ → Bool
ends_in_port [] = false
ends_in_port (b ∷ bytes) = (nat_eq b 58 && is_port bytes) || ends_in_port bytes

-- The argument is an address: it begins with `unix:`, or it has no slash and ends in a colon and a port.
abbrev pub IsAddressWord : Text → Type 0
IsAddressWord word = ((path : Text) × (word ≡ codes "unix:" ++ path))
    ⊎ ((list_any (λ b. nat_eq b 47) word ≡ false) × (ends_in_port word ≡ true))

-- the argument names this source: a server's address, or else a folder
abbrev pub IsHolderOf : Option Text → DumpSource → Type 0
IsHolderOf None h = ⊥
IsHolderOf (Some word) (Server address) = (address.now ≡ word) × IsAddressWord word
IsHolderOf (Some word) (Folder folder) = (folder.now ≡ word) × (IsAddressWord word → ⊥)
