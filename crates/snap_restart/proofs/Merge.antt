-- The begun updates that reached the devices, appended to the history, segment by segment.
use Rattle.std.proofs.Common.{◌≡◌, ◌≢◌, ◌⊎◌, ⊎_elim, ℕ, zero, suc, ◌+◌, ◌<◌, ◌≤◌, List, [], ◌∷◌, ◌++◌, length, Some}
use Rattle.std.proofs.Common.{slice_get, arith, below_more}
use Rattle.std.proofs.lemmas.{Bool.Decides.nat_tests, List.append_assoc, Option.slice_get_within}
use Rattle.snap_slot.specs.Layout.{IsFileOf}
use Rattle.snap_history.specs.History.{Update, Start, updates_of, number_after, value_after}
use Rattle.snap_history.proofs.Lists.{get-push}
use Rattle.snap_history.proofs.Moments.{updates-append, number-push, number-push_other, value-push, value-push_other}
use Rattle.snap_writer.proofs.Shown.{number_kept, value_kept}
use Rattle.snap_restart.specs.{LifeCrash.IsRecovered, Restarts.update}

-- one more update, of segment m, where there were none of m and of the segments after it
still_once : (m : ℕ) (v : List ℕ) (more : List Update) → ((i : ℕ) → updates_of i more ≤ 1)
    → ((i : ℕ) → m ≤ i → updates_of i more ≡ 0) → (i : ℕ) → updates_of i (more ++ update m v ∷ []) ≤ 1
still_once m v more once none i = grind (arith, nat_tests, updates-append)

still_none : (m : ℕ) (v : List ℕ) (more : List Update) → ((i : ℕ) → m ≤ i → updates_of i more ≡ 0) → (i : ℕ)
    → suc m ≤ i → updates_of i (more ++ update m v ∷ []) ≡ 0
still_none m v more none i low = grind (arith, nat_tests, updates-append)

module _ (start : Start) (h : List Update) (begun : ℕ → List ℕ → Type 0) (Holds : ℕ → ℕ → List ℕ → Type 0) where
  -- segment i has its number and value after the updates x
  abbrev HasAfter : List Update → ℕ → Type 0
  HasAfter x i = Holds i (number_after start x i) (value_after start x i)

  -- segment i has its number and value after the history, or the next number and a begun value
  abbrev pub Found : ℕ → Type 0
  Found i = HasAfter h i ⊎ ((v : List ℕ) × begun i v × Holds i (number_after start h i + 1) v)

  -- the first m segments
  pub record Merged (m : ℕ) : Type 0 where
    pub more : List Update
    pub were_begun : (j : ℕ) (u : Update) → slice_get more j ≡ Some u → (u.segment < m) × begun u.segment u.value
    pub once : (i : ℕ) → updates_of i more ≤ 1
    pub none : (i : ℕ) → m ≤ i → updates_of i more ≡ 0
    pub holds : (i : ℕ) → i < m → HasAfter (h ++ more) i

  with_none : (m : ℕ) → Merged m → HasAfter h m → Merged (suc m)
  with_none m r here =
      let none = r.none m (omega arith) in
      record {
        more = r.more;
        were_begun = λ j u e. (let b = r.were_begun j u e in let l = b.0 in (omega arith, b.1));
        once = r.once;
        none = λ i l. r.none i (omega arith);
        holds = λ i l. below_more (HasAfter (h ++ r.more)) m r.holds
            (rw (number_kept start h r.more m none, value_kept start h r.more m none) here) i (omega arith);
      }

  with_begun : (m : ℕ) (v : List ℕ) → Merged m → begun m v → Holds m (number_after start h m + 1) v → Merged (suc m)
  with_begun m v r was here =
      let u = update m v in
      let before = h ++ r.more in
      record {
        more = r.more ++ u ∷ [];
        were_begun = get-push (λ (x : Update). (x.segment < suc m) × begun x.segment x.value) r.more
            u (λ j x e. (let b = r.were_begun j x e in let l = b.0 in (omega arith, b.1))) (omega arith, was);
        once = still_once m v r.more r.once r.none;
        none = still_none m v r.more r.none;
        holds = λ i l. rw (← append_assoc h r.more (u ∷ [])) (below_more (HasAfter (before ++ u ∷ [])) m
            (λ j low. let other : m ≢ j = omega arith in
            rw (number-push_other start before u j other, value-push_other start before u j other) (r.holds j low))
            (rw (
              number-push start before u,
              value-push start before u,
              number_kept start h r.more m (r.none m (omega arith)),
            ) here) i (omega arith));
      }

  pub merge : (m : ℕ) → ((i : ℕ) → i < m → Found i) → Merged m
  merge zero found = grind arith
  merge (suc m) found =
      let r = merge m (λ i l. found i (omega arith)) in
      ⊎_elim (with_none m r) (λ b. with_begun m b.0 r b.1 b.2) (found m (omega arith))

-- segment i has this number and this value in its file
abbrev pub FileAt : ℕ → List (List ℕ) → ℕ → ℕ → List ℕ → Type 0
FileAt n files i k v = (b : List ℕ) → slice_get files i ≡ Some b → IsFileOf i n k v b

pub all_found : (n : ℕ) (start : Start) (h : List Update) (begun : ℕ → List ℕ → Type 0) (files : List (List ℕ))
    → length files ≡ n → ((i : ℕ) → i < n → Found start h begun (FileAt n files) i) → IsRecovered n start h begun files
all_found n start h begun files size each =
    let m = merge start h begun (FileAt n files) n each in
    record {
      begun_too = m.more;
      were_begun = m.were_begun;
      once = m.once;
      size = size;
      holds = λ i b e. m.holds i (let low = slice_get_within files i b e in omega arith) b e;
    }
