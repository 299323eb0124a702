-- A round polls each connection of the list once.
use Rattle.std.proofs.Common.{◌≡◌, ◌≢◌, ◌⊎◌, ℕ, ◌+◌, ◌<◌, List, [], ◌∷◌, ◌++◌, length, take, drop, get_or, length-take}
use Rattle.std.proofs.Common.{append-nil, append_assoc, Option, Some, None, IsSome, inl, inr, refl, sym, ◌∙◌, ap, subst}
use Rattle.std.proofs.Common.{arith, Contains}
use Rattle.std.proofs.lemmas.Bool.{cases_eq}
use Rattle.std.proofs.lemmas.List.{get_or-take, get_or_default, drop_more, take_more, take_all}
use Rattle.std.proofs.lemmas.List.Elements.{Contains-append_left, Contains-push, Contains-push_cases}
use Rattle.slab.specs.Slab.{Slab, get}
use Rattle.slab.proofs.SlabLemmas.{Contains-cons, Contains-cons_cases}
use Rattle.snap_frame.specs.declared.{request.Request.Request, reply.Reply.Reply}
use Rattle.snap_session.{specs.Talk.Moves, proofs.Runs.moves_joins}
use Rattle.snap_server.specs.declared.connection.ConnectionState.TheVariants.{Idle, Listed, Over}
use Rattle.snap_server.specs.TurnList.{Lists, KeepsOthers, again_behind}
use Rattle.snap_server.specs.Turns.{HadRounds, HadTurn, HadItsTurn}
use Rattle.snap_server.{specs.declared.connection.Connection.Connection, specs.Scene.scene}
use Rattle.snap_server.{specs.declared.connection.ConnectionState.ConnectionState, proofs.Step.same_value}
use mathlib.Core.Logic.{∥∥₁_elim}
use mathlib.Core.HLevel.{⊥_prop}

-- a key is on a list or not
contains_or : (keys : List ℕ) (key : ℕ) → Contains keys key ⊎ (Contains keys key → ⊥)
contains_or [] key = inr (λ at. absurd (omega (arith, at.1)))
contains_or (k ∷ ks) key = elim (cases_eq k key) [
  | inl same ↦ inl (0, omega arith, same)
  | inr other ↦ elim (contains_or ks key) [
    | inl later ↦ inl (Contains-cons k key ks later)
    | inr never ↦ inr (λ at. elim (Contains-cons_cases k key ks at) [
      | inl same ↦ absurd (other same)
      | inr later ↦ absurd (never later)
    ])
  ]
]

-- a connection that is marked as listed is on the list
on_list : (keys : List ℕ) (old : Slab Connection) (key : ℕ) (c : Connection) → ∥ Lists keys old ∥₁
    → get old key ≡ Some c → c.stage ≡ Listed → (Contains keys key → ⊥) → ⊥
on_list keys old key c lists at is out = ∥∥₁_elim lists ⊥_prop (λ l. out ((l.same key).1 (c, at, is)))

off_list : (keys : List ℕ) (old : Slab Connection) (key : ℕ) (c : Connection)
    → ∥ Lists keys old ∥₁ → get old key ≡ Some c → (c.stage ≡ Listed → ⊥) → Contains keys key → ⊥
off_list keys old key c lists at off there = ∥∥₁_elim lists ⊥_prop (λ l. let p = (l.same key).0 there in
    off (ap (λ (z : Connection). z.stage) (same_value old key c p.0 at p.1) ∙ p.2))

-- the next connection wasn't polled yet
not_yet : (keys : List ℕ) (old : Slab Connection) (i : ℕ) → ∥ Lists keys old ∥₁ → i < length keys
    → Contains (take i keys) (get_or keys i 0) → ⊥
not_yet keys old i lists lt (j, within, is) =
    let before : j < i = omega (arith, within, length-take i keys) in
    let k = get_or keys i 0 in
    ∥∥₁_elim lists ⊥_prop (λ l. l.once j i k before lt
    (sym (get_or-take i keys j k before) ∙ is ∙ get_or_default keys i 0 k lt))

again_cases : (s : ConnectionState) (key : ℕ) (keys listed : List ℕ) → listed ≡ again_behind s key keys
    → (listed ≡ keys) ⊎ (listed ≡ keys ++ key ∷ [])
again_cases Idle key keys listed is = inl is
again_cases Listed key keys listed is = inr is
again_cases Over key keys listed is = inl is

-- a poll keeps the rest of the list, or appends its own key to it
pub turned_list : (mid new : Slab Connection) (k : ℕ) (keys listed : List ℕ) → (get mid k ≡ None → listed ≡ keys)
    → ((c : Connection) → get mid k ≡ Some c → IsSome (get new k))
    → ((d : Connection) → get new k ≡ Some d → listed ≡ again_behind d.stage k keys)
    → (listed ≡ keys) ⊎ (listed ≡ keys ++ k ∷ [])
turned_list mid new k keys listed none kept again = by_old (get mid k) refl
  where
    by_new : (o : Option Connection) → get new k ≡ o → IsSome o → (listed ≡ keys) ⊎ (listed ≡ keys ++ k ∷ [])
    by_new None is some = absurd cc
    by_new (Some d) is some = again_cases d.stage k keys listed (again d is)

    by_old : (o : Option Connection) → get mid k ≡ o → (listed ≡ keys) ⊎ (listed ≡ keys ++ k ∷ [])
    by_old None is = inl (none is)
    by_old (Some c) is = by_new (get new k) refl (kept c is)

-- `turned_list` for the first key of the list
pub first_list : (items keys rest listed : List ℕ) (k key : ℕ) → items ≡ k ∷ keys
    → (listed ≡ keys) ⊎ (listed ≡ keys ++ k ∷ []) → items ≡ key ∷ rest → (listed ≡ rest) ⊎ (listed ≡ rest ++ key ∷ [])
first_list items keys rest listed k key one left two = grind (arith, k)

module _ {S : Type 0} (gives : S → Request → Reply → S → Type 0) (most : ℕ) where
  -- the connection is taken off the list, polled, and may be removed
  pub first_turn : (s a t u : S) (items keys rest : List ℕ) (k key : ℕ) (old mid new last : Slab Connection)
      → items ≡ k ∷ keys → a ≡ s → ((c : Connection) → get old k ≡ Some c
      → get mid k ≡ Some (record c { stage = Idle })) → KeepsOthers k old mid
      → ((c : Connection) → (d : Connection) → get mid k ≡ Some c → get new k ≡ Some d
      → HadRounds gives most d.stage (scene a c.session) (scene t d.session)) → KeepsOthers k mid new → u ≡ t
      → ((d : Connection) → get last k ≡ Some d → get new k ≡ Some d) → KeepsOthers k new last → items ≡ key ∷ rest
      → HadTurn gives most key s u old last
  first_turn s a t u items keys rest k key old mid new last one same off others_off rounds others
      left kept others_kept two =
      let both : k ∷ keys ≡ key ∷ rest = sym one ∙ two in
      let head : k ≡ key = cc in
      subst (λ h. HadTurn gives most h s u old last) head (record {
        rounds = λ c d was is. subst (λ z. HadRounds gives most d.stage (scene z c.session) (scene u d.session)) same
            (subst (λ z. HadRounds gives most d.stage (scene a c.session) (scene z d.session)) (sym left)
            (rounds (record c { stage = Idle }) d (off c was) (kept d is)));
        others = λ o apart. others_kept o apart ∙ others o apart ∙ others_off o apart;
      })

  -- The progress of a round: each of the first i keys was polled. The others come before all that were listed again.
  pub record IsRound (keys : List ℕ) (i : ℕ) (s t : S) (old now : Slab Connection)
      (listed : List ℕ) : Type 0 where
    pub again : List ℕ
    pub order : listed ≡ drop i keys ++ again
    pub moves : Moves gives s t
    pub had : (key : ℕ) (c d : Connection) → Contains (take i keys) key → get old key ≡ Some c
        → get now key ≡ Some d → HadItsTurn gives most Listed s t c d
    pub left : (key : ℕ) → (Contains (take i keys) key → ⊥) → get now key ≡ get old key

  pub no_turn_yet : (keys : List ℕ) (s : S) (old : Slab Connection) → IsRound keys 0 s s old old keys
  no_turn_yet keys s old = record {
    again = [];
    order = sym (append-nil keys);
    moves = ([], [], refl);
    had = λ key c d at. absurd (omega (arith, at.1));
    left = λ key out. refl;
  }

  pub next_first : (keys : List ℕ) (i : ℕ) (s t : S) (old now : Slab Connection) (listed : List ℕ)
      (round : IsRound keys i s t old now listed) → i < length keys
      → listed ≡ get_or keys i 0 ∷ (drop (i + 1) keys ++ round.again)
  next_first keys i s t old now listed round lt = round.order ∙ ap (λ ks. ks ++ round.again) (drop_more keys i 0 lt)

  pub one_turn_more : (keys : List ℕ) (i : ℕ) (s t u : S) (old now new : Slab Connection) (listed behind : List ℕ)
      (round : IsRound keys i s t old now listed) → i < length keys → ∥ Lists keys old ∥₁
      → HadTurn gives most (get_or keys i 0) t u now new → Moves gives t u → (behind ≡ drop (i + 1) keys ++ round.again)
      ⊎ (behind ≡ (drop (i + 1) keys ++ round.again) ++ get_or keys i 0 ∷ []) → IsRound keys (i + 1) s u old new behind
  one_turn_more keys i s t u old now new listed behind round lt lists turn moved order = record {
    again = (by_order order).0;
    order = (by_order order).1;
    moves = moves_joins gives s t u round.moves moved;
    had = λ key c d at was is. by_key key c d
        (Contains-push_cases (take i keys) k key (subst (λ ks. Contains ks key) more at)) was is;
    left = λ key out. turn.others key (λ same. out (subst (λ ks. Contains ks key) (sym more)
        (subst (Contains (take i keys ++ k ∷ [])) (sym same) (Contains-push (take i keys) k)))) ∙ round.left key
        (λ at. out (subst (λ ks. Contains ks key) (sym more) (Contains-append_left (take i keys) (k ∷ []) key at)));
  }
    where
      k : ℕ
      k = get_or keys i 0

      more : take (i + 1) keys ≡ take i keys ++ k ∷ []
      more = take_more keys i 0 lt

      by_order : (behind ≡ drop (i + 1) keys ++ round.again) ⊎ (behind ≡ (drop (i + 1) keys ++ round.again) ++ k ∷ [])
          → (again : List ℕ) × (behind ≡ drop (i + 1) keys ++ again)
      by_order (inl is) = (round.again, is)
      by_order (inr is) = (round.again ++ k ∷ [], is ∙ append_assoc (drop (i + 1) keys) round.again (k ∷ []))

      by_key : (key : ℕ) (c d : Connection) → Contains (take i keys) key ⊎ (k ≡ key)
          → get old key ≡ Some c → get new key ≡ Some d → HadItsTurn gives most Listed s u c d
      by_key key c d (inl at) was is =
          let apart : key ≢ k = λ same. not_yet keys old i lists lt (subst (Contains (take i keys)) same at) in
          let had = round.had key c d at was (sym (turn.others key apart) ∙ is) in
          (had.0, had.1, had.2, had.3, moves_joins gives had.1 t u had.4 moved)
      by_key key c d (inr same) was is =
          let out : Contains (take i keys) key → ⊥ = λ at. not_yet keys old i lists lt
          (subst (Contains (take i keys)) (sym same) at) in (
            t,
            u,
            round.moves,
            turn.rounds c d (ap (get now) same ∙ round.left key out ∙ was) (ap (get new) same ∙ is),
            ([], [], refl),
          )

  -- all connections of the list were polled, and no other one
  pub round_done : (keys : List ℕ) (i : ℕ) (s t : S) (old now : Slab Connection) (listed : List ℕ)
      → IsRound keys i s t old now listed → i ≡ length keys → ∥ Lists keys old ∥₁ → (key : ℕ) (c d : Connection)
      → get old key ≡ Some c → get now key ≡ Some d → HadItsTurn gives most c.stage s t c d
  round_done keys i s t old now listed round whole lists key c d was is = by_stage c.stage refl
    where
      all : take i keys ≡ keys
      all = take_all i keys (omega (arith, whole))

      alone : (Contains keys key → ⊥) → d ≡ c
      alone out = grind (arith, all)

      by_stage : (stage : ConnectionState) → c.stage ≡ stage → HadItsTurn gives most stage s t c d
      by_stage Idle at = alone (off_list keys old key c lists was
          (λ on. let wrong : Idle ≡ Listed = sym at ∙ on in absurd cc))
      by_stage Over at = alone (off_list keys old key c lists was
          (λ on. let wrong : Over ≡ Listed = sym at ∙ on in absurd cc))
      by_stage Listed at = elim (contains_or keys key) [
        | inl there ↦ round.had key c d (subst (λ ks. Contains ks key) (sym all) there) was is
        | inr out ↦ absurd (on_list keys old key c lists was at out)
      ]
