-- The list of the connections to poll.
use Rattle.std.proofs.Common.{◌≡◌, ◌≢◌, ◌↔◌, ◌⊎◌, ℕ, suc, ◌+◌, ◌<◌, ◌≤◌, List, [], ◌∷◌, ◌++◌, length, length-append}
use Rattle.std.proofs.Common.{get_or, set, Option, Some, None, is_some, IsSome, count_by, refl, sym, ◌∙◌, ap}
use Rattle.std.proofs.Common.{subst, inl, inr, arith, AllPairs, Contains}
use Rattle.std.proofs.lemmas.List.Elements.{Contains-get_or, Contains-append_left, Contains-push, Contains-push_cases}
use Rattle.std.{specs.Coded.le_prop, proofs.lemmas.List.get_or-set_other, proofs.lemmas.List.Quantifiers.all_pairs_push}
use Rattle.std.{proofs.lemmas.Bool.cases_eq, proofs.lemmas.List.get_or_past, proofs.lemmas.List.Sums.sum_by-set}
use Rattle.slab.specs.Slab.{Slab, get, slab_len, Updates}
use Rattle.slab.proofs.SlabLemmas.{Contains-cons, Contains-cons_cases}
use Rattle.snap_server.specs.declared.connection.ConnectionState.TheVariants.{Idle, Listed, Over}
use Rattle.snap_server.specs.TurnList.{IsListed, Lists, enlisted, listed_behind, KeepsOthers}
use Rattle.snap_server.proofs.Step.{IsStep, same_value, none_there, not_both}
use Rattle.snap_server.specs.declared.connection.{Connection.Connection, ConnectionState.ConnectionState}
use mathlib.Core.Logic.{∥∥₁_elim}

abbrev Apart : ℕ → ℕ → Type 0
Apart a b = a ≢ b

-- the head is in the list once
head_once : (key : ℕ) (rest : List ℕ) → AllPairs Apart (key ∷ rest) → Contains rest key → ⊥
head_once key rest once at = once 0 (suc at.0) key (omega arith) (omega (arith, at.1)) (sym at.2)

tail_once : (key : ℕ) (rest : List ℕ) → AllPairs Apart (key ∷ rest) → AllPairs Apart rest
tail_once key rest once i j d before within = once (suc i) (suc j) d (omega (arith, before)) (omega (arith, within))

-- emptying a filled slot leaves one filled slot less
emptied : {T : Type 0} (slots : List (Option T)) (key : ℕ) → IsSome (get_or slots key None)
    → count_by is_some (set slots key None) + 1 ≡ count_by is_some slots
emptied slots key filled = grind (arith, get_or_past, sum_by-set)

-- there are at least as many filled slots as different keys of filled slots
keys_fit : {T : Type 0} (keys : List ℕ) (slots : List (Option T)) → AllPairs Apart keys
    → ((key : ℕ) → Contains keys key → IsSome (get_or slots key None)) → length keys ≤ count_by is_some slots
keys_fit [] slots once filled = omega arith
keys_fit (k ∷ ks) slots once filled =
    let here = filled k (0, omega arith, refl) in
    let rest = keys_fit ks (set slots k None) (tail_once k ks once) (λ key at.
    subst IsSome (sym (get_or-set_other slots k key None None
    (λ same. head_once k ks once (subst (Contains ks) same at))))
    (filled key (Contains-cons k key ks at))) in
    omega (arith, rest, emptied slots k here)

-- the list is no longer than the number of connections
pub lists_fit : (keys : List ℕ) (connections : Slab Connection) → Lists keys connections
    → length keys ≤ slab_len connections
lists_fit keys connections lists =
    keys_fit keys connections.slots lists.once (λ key at. ap is_some ((lists.same key).0 at).1)

-- so there is capacity for one more connection that is marked as listed
pub lists_room : (keys : List ℕ) (key : ℕ) (connections : Slab Connection) (room : ℕ)
    → slab_len connections ≤ room → ∥ Lists (keys ++ key ∷ []) connections ∥₁ → length keys < room
lists_room keys key connections room few lists = ∥∥₁_elim lists le_prop (λ more.
    omega (arith, few, lists_fit (keys ++ key ∷ []) connections more, length-append keys (key ∷ [])))

-- a connection that isn't idle keeps its state
pub enlisted_same : (s : ConnectionState) → (s ≡ Idle → ⊥) → enlisted s ≡ s
enlisted_same Idle off = absurd (off refl)
enlisted_same Listed off = refl
enlisted_same Over off = refl

-- a connection that isn't idle isn't put on the list
pub behind_same : (s : ConnectionState) (key : ℕ) (keys : List ℕ) → (s ≡ Idle → ⊥) → keys ≡ listed_behind s key keys
behind_same Idle key keys off = absurd (off refl)
behind_same Listed key keys off = refl
behind_same Over key keys off = refl

-- a connection that isn't closed is on the list then
pub enlisted_going : (s : ConnectionState) → (s ≡ Over → ⊥) → enlisted s ≡ Listed
enlisted_going Idle off = refl
enlisted_going Listed off = refl
enlisted_going Over off = absurd (off refl)

-- no connection is on the list
pub none_list : (connections : Slab Connection) → ((key : ℕ) → get connections key ≡ None) → Lists [] connections
none_list connections none = grind (arith, none_there)

-- one connection has changed, and its mark is unchanged
pub lists_kept : (keys : List ℕ) (old new : Slab Connection) (key : ℕ) → KeepsOthers key old new
    → (IsListed old key → IsListed new key) → (IsListed new key → IsListed old key) → Lists keys old → Lists keys new
lists_kept keys old new key others on back lists =
    record { once = lists.once; same = λ k. (λ at. to k ((lists.same k).0 at), λ at. (lists.same k).1 (from k at)) }
  where
    to : (k : ℕ) → IsListed old k → IsListed new k
    to k at = elim (cases_eq k key) [
      | inl same ↦ subst (IsListed new) (sym same) (on (subst (IsListed old) same at))
      | inr other ↦ (at.0, others k other ∙ at.1, at.2)
    ]

    from : (k : ℕ) → IsListed new k → IsListed old k
    from k at = elim (cases_eq k key) [
      | inl same ↦ subst (IsListed old) (sym same) (back (subst (IsListed new) same at))
      | inr other ↦ (at.0, sym (others k other) ∙ at.1, at.2)
    ]

-- the table has more capacity
pub lists_same : (keys : List ℕ) (old new : Slab Connection)
    → new ≡ record old { capacity = new.capacity } → Lists keys old → Lists keys new
lists_same keys old new same lists = record {
  once = lists.once;
  same = λ k. let is = ap (λ (s : Slab Connection). get s k) same in
      (λ at. let p = (lists.same k).0 at in (p.0, is ∙ p.1, p.2), λ at. (lists.same k).1 (at.0, sym is ∙ at.1, at.2));
}

-- an idle connection is put on the list
pub lists_more : (keys : List ℕ) {key : ℕ} {old new : Slab Connection} {c d : Connection} → IsStep key old new c d
    → c.stage ≡ Idle → d.stage ≡ Listed → Lists keys old → Lists (keys ++ key ∷ []) new
lists_more keys {key} {old} {new} {c} {d} step idle listed lists = record {
  once = all_pairs_push Apart keys key lists.once (λ k e within same.
      absent (subst (Contains keys) same (Contains-get_or keys k e within)));
  same = λ k. (λ there. to k (Contains-push_cases keys key k there), from k);
}
  where
    absent : Contains keys key → ⊥
    absent there =
        let p = (lists.same key).0 there in
        not_both c.stage idle (ap (λ (z : Connection). z.stage)
        (same_value old key c p.0 step.before p.1) ∙ p.2)

    to : (k : ℕ) → Contains keys k ⊎ (key ≡ k) → IsListed new k
    to k (inl there) = elim (cases_eq k key) [
      | inl same ↦ subst (IsListed new) (sym same) (d, step.behind, listed)
      | inr other ↦ let p = (lists.same k).0 there in (p.0, step.others k other ∙ p.1, p.2)
    ]
    to k (inr same) = subst (IsListed new) same (d, step.behind, listed)

    from : (k : ℕ) → IsListed new k → Contains (keys ++ key ∷ []) k
    from k there = elim (cases_eq k key) [
      | inl same ↦ subst (Contains (keys ++ key ∷ [])) (sym same) (Contains-push keys key)
      | inr other ↦ Contains-append_left keys (key ∷ []) k
          ((lists.same k).1 (there.0, sym (step.others k other) ∙ there.1, there.2))
    ]

-- the first connection is taken off the list
pub lists_rest : (rest : List ℕ) {key : ℕ} {old new : Slab Connection} {c d : Connection}
    → IsStep key old new c d → d.stage ≡ Idle → Lists (key ∷ rest) old → Lists rest new
lists_rest rest {key} {old} {new} {d = d} step idle lists =
    record { once = tail_once key rest lists.once; same = λ k. (to k, from k) }
  where
    to : (k : ℕ) → Contains rest k → IsListed new k
    to k there =
        let p = (lists.same k).0 (Contains-cons key k rest there) in
        (p.0, step.others k (λ same. head_once key rest lists.once (subst (Contains rest) same there)) ∙ p.1, p.2)

    from : (k : ℕ) → IsListed new k → Contains rest k
    from k there = elim (cases_eq k key) [
      | inl same ↦
          let is = same_value new key d there.0 step.behind (ap (get new) (sym same) ∙ there.1) in
          absurd (not_both d.stage idle (ap (λ (z : Connection). z.stage) is ∙ there.2))
      | inr other ↦ elim (Contains-cons_cases key k rest
          ((lists.same k).1 (there.0, sym (step.others k other) ∙ there.1, there.2))) [
            | inl same ↦ absurd (other (sym same))
            | inr later ↦ later
          ]
    ]

-- the connection of a key has changed, and its mark is unchanged
pub lists_step : (keys : List ℕ) {key : ℕ} {old new : Slab Connection} {c d : Connection} → IsStep key old new c d
    → (d.stage ≡ Listed ↔ c.stage ≡ Listed) → Lists keys old → Lists keys new
lists_step keys {key} {old} {new} {c} {d} step says lists = lists_kept keys old new key step.others
    (λ p. (d, step.behind, says.1 (ap (λ (z : Connection). z.stage) (same_value old key c p.0 step.before p.1) ∙ p.2)))
    (λ p. (c, step.before, says.0 (ap (λ (z : Connection). z.stage) (same_value new key d p.0 step.behind p.1) ∙ p.2)))
    lists

-- a connection that isn't on the list is removed
pub lists_removed : (keys : List ℕ) (old new : Slab Connection) (key : ℕ) (c : Connection) → get old key ≡ Some c
    → c.stage ≢ Listed → Updates old new key None → Lists keys old → Lists keys new
lists_removed keys old new key c at off gone lists = lists_kept keys old new key gone.others
    (λ p. absurd (off (ap (λ (z : Connection). z.stage) (same_value old key c p.0 at p.1) ∙ p.2)))
    (λ p. absurd (none_there new key gone.changed p.0 p.1)) lists

-- a connection that isn't on the list is added
pub lists_added : (keys : List ℕ) (old new : Slab Connection) (key : ℕ) (d : Connection) → get old key ≡ None
    → d.stage ≡ Idle → Updates old new key (Some d) → Lists keys old → Lists keys new
lists_added keys old new key d vacant idle came lists =
    lists_kept keys old new key came.others (λ p. absurd (none_there old key vacant p.0 p.1))
    (λ p. absurd (not_both d.stage idle (ap (λ (z : Connection). z.stage) (same_value new key d p.0 came.changed p.1)
    ∙ p.2))) lists

-- the first key of the list has a connection
pub none_first : (key : ℕ) (rest : List ℕ) (connections : Slab Connection)
    → Lists (key ∷ rest) connections → get connections key ≡ None → ⊥
none_first key rest connections lists none =
    let p = (lists.same key).0 (0, omega arith, refl) in
    none_there connections key none p.0 p.1
