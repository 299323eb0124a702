-- How a step of one connection changes the table.
use Rattle.std.proofs.Common.{◌≡◌, ◌↔◌, ◌<◌, ℕ, length, get_or, cond, None, Some, is_some, IsSome, sym, ◌∙◌, ap, subst}
use Rattle.std.proofs.Common.{arith}
use Rattle.std.proofs.lemmas.List.{get_or_past, Sums.sum_by-set}
use Rattle.slab.specs.Slab.{Slab, get, slab_len, with_value}
use Rattle.slab.proofs.SlabLemmas.{Updates-with_value}
use Rattle.snap_server.specs.declared.connection.ConnectionState.TheVariants.{Idle, Listed, Over}
use Rattle.snap_server.specs.TurnList.{enlisted, KeepsOthers}
use Rattle.snap_server.specs.declared.connection.{Connection.Connection, ConnectionState.ConnectionState}

-- a connection that is idle or closed isn't on the list
pub not_both : (s : ConnectionState) → s ≡ Idle → s ≡ Listed → ⊥
not_both s one two = let wrong : Idle ≡ Listed = sym one ∙ two in absurd cc

pub over_off : (s : ConnectionState) → s ≡ Over → s ≡ Listed → ⊥
over_off s one two = let wrong : Over ≡ Listed = sym one ∙ two in absurd cc

-- a key has one connection
pub same_value : (connections : Slab Connection) (key : ℕ) (c d : Connection)
    → get connections key ≡ Some c → get connections key ≡ Some d → c ≡ d
same_value connections key c d one two = let both : Some c ≡ Some d = sym one ∙ two in cc

-- the key has no connection
pub none_there : (connections : Slab Connection) (key : ℕ) → get connections key ≡ None
    → (c : Connection) → get connections key ≡ Some c → ⊥
none_there connections key none c at = let wrong : None ≡ Some c = sym none ∙ at in absurd cc

-- the connection of this key was `was` and is `is`, and no other one changed
pub record IsStep (key : ℕ) (old new : Slab Connection) (was is : Connection) : Type 0 where
  pub before : get old key ≡ Some was
  pub behind : get new key ≡ Some is
  pub others : KeepsOthers key old new
  pub count : slab_len new ≡ slab_len old

pub written : (old : Slab Connection) (key : ℕ) (was is : Connection) → get old key ≡ Some was
    → IsStep key old (with_value old key is) was is
written old key was is at =
    let filled : IsSome (get_or old.slots key None) = ap is_some at in
    let updates = Updates-with_value old key is filled in
    let within : key < length old.slots = grind (arith, get_or_past) in
    let one : ◌≡◌ {A = ℕ} (cond (is_some (get_or old.slots key None)) 1 0) 1 = ap (λ b. cond {A = ℕ} b 1 0) filled in
    record {
      before = at;
      behind = updates.changed;
      others = updates.others;
      count = omega (arith, one, sum_by-set (λ o. cond (is_some o) 1 0) old.slots key (Some is) None within);
    }

-- the connection was also appended to the list
pub then_listed : {key : ℕ} {old mid : Slab Connection} {was is : Connection} → IsStep key old mid was is
    → (new : Slab Connection) → enlisted is.stage ≡ Listed → ((c : Connection) → get mid key ≡ Some c
    → get new key ≡ Some (record c { stage = enlisted c.stage })) → KeepsOthers key mid new
    → slab_len new ≡ slab_len mid → IsStep key old new was (record is { stage = Listed })
then_listed {is = is} step new on listed others count = grind arith

-- the key had a connection
pub somebody : {key : ℕ} {old new : Slab Connection} {was is : Connection}
    → IsStep key old new was is → get old key ≡ None → ⊥
somebody {key} {old} {new} {was} step none = none_there old key none was step.before

-- A property of `was` is a property of any connection that is found at the key before, and likewise of `is` after.
pub of_old : (P : Connection → Type 0) {key : ℕ} {old new : Slab Connection} {was is : Connection}
    → IsStep key old new was is → P was → (c : Connection) → get old key ≡ Some c → P c
of_old P {key} {old} {new} {was} step known c at = subst P (same_value old key was c step.before at) known

pub of_new : (P : Connection → Type 0) {key : ℕ} {old new : Slab Connection} {was is : Connection}
    → IsStep key old new was is → P is → (d : Connection) → get new key ≡ Some d → P d
of_new P {key} {old} {new} {was} {is} step known d at = subst P (same_value new key is d step.behind at) known

pub of_both : (P : Connection → Connection → Type 0) {key : ℕ} {old new : Slab Connection}
    {was is : Connection} → IsStep key old new was is → P was is → (c : Connection)
    → (d : Connection) → get old key ≡ Some c → get new key ≡ Some d → P c d
of_both P {was = was} {is = is} step known c d at_c at_d = grind (arith, of_new, of_old)

-- its mark hasn't changed
pub same_stage : {a b : ConnectionState} → b ≡ a → b ≡ Listed ↔ a ≡ Listed
same_stage same = (λ on. sym same ∙ on, λ on. same ∙ on)

pub ends_idle : {a b : ConnectionState} → a ≡ Idle → b ≡ Over → b ≡ Listed ↔ a ≡ Listed
ends_idle {a} {b} idle over = (λ on. absurd (over_off b over on), λ on. absurd (not_both a idle on))
