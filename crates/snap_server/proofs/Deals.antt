-- The calls of a listener, one after another.
use Rattle.std.proofs.Common.{◌≡◌, ◌⊎◌, ℕ, zero, suc, List, [], ◌∷◌, length}
use Rattle.std.proofs.Common.{slice_get, ◌+◌, Some, Result, Ok, Err, IfOk, arith, inl, inr, refl, sym, subst}
use Rattle.snap_server.specs.Deals.{AsksInVain, CallsInVain, Deals, Gives, GivesSoMany, IsDelivered, turn_after}
use Rattle.snap_server.specs.Deals.{turn_of}
use Rattle.snap_server.specs.declared.listen.{Accepted.Accepted, AcceptFault.AcceptFault}

-- k connections were delivered, and the next turn is known. `held` are the senders that the dispatcher then has.
pub record HasDealt {L H : Type 0} (accepts : L → Result Accepted AcceptFault → L → Type 0)
    (refuses : L → Type 0) (takes : H → Accepted → Type 0) (busy idle : H → Type 0) (senders : List H) (k : ℕ)
    (old new : L) (held : List H) (next : ℕ) : Type 0 where
  pub deals : Deals accepts takes busy idle senders k old new
  pub same : refuses new → refuses old
  pub turn : turn_of next (length senders) ≡ turn_after (length senders) k
  pub theirs : held ≡ senders

one_more : (k : ℕ) → k + 1 ≡ suc k
one_more = grind arith

-- one more connection was accepted, and delivered to the sender whose turn it was
pub dealt_more : {L H : Type 0} (accepts : L → Result Accepted AcceptFault → L → Type 0) (refuses : L → Type 0)
    (takes : H → Accepted → Type 0) (busy idle : H → Type 0) (senders : List H) (k : ℕ) (a b c : L)
    (held held' : List H) (next next' : ℕ) → HasDealt accepts refuses takes busy idle senders k a b held next
    → (arrival : Accepted) × (sender : H) × Gives accepts b arrival c
    × (slice_get held (turn_of next (length held)) ≡ Some sender) × IsDelivered takes busy idle held sender arrival
    → (refuses c → refuses b) → next' ≡ turn_of next (length held) + 1 → held' ≡ held
    → HasDealt accepts refuses takes busy idle senders (k + 1) a c held' next'
dealt_more accepts refuses takes busy idle senders k a b c held held' next next' before given is_same in_turn
    kept = rw (one_more k) record {
      deals = (
        b,
        given.0,
        given.1,
        before.deals,
        given.2,
        rw before.turn at (rw before.theirs at given.3),
        rw before.theirs at given.4,
      );
      same = λ fails. before.same (is_same fails);
      turn = rw in_turn (rw before.theirs (rw before.turn refl));
      theirs = rw kept before.theirs;
    }

module _ {L : Type 0} (accepts : L → Result Accepted AcceptFault → L → Type 0) where
  -- the listener was called once more, or not at all
  pub vain_more : (a b c : L) (why : AcceptFault) → AsksInVain accepts a b
      → (c ≡ b) ⊎ accepts b (Err why) c → AsksInVain accepts a c
  vain_more a b c why before (inl same) = subst (AsksInVain accepts a) (sym same) before
  vain_more a b c why before (inr asked) = (why ∷ before.0, (b, before.1, asked))

  calls_behind : (a b c : L) (whys : List AcceptFault) → AsksInVain accepts a b
      → CallsInVain accepts whys b c → AsksInVain accepts a c
  calls_behind a b c [] before same = subst (AsksInVain accepts a) (sym same) before
  calls_behind a b c (why ∷ earlier) before calls =
      let more = calls_behind a b calls.0 earlier before calls.1 in
      (why ∷ more.0, (calls.0, more.1, calls.2))

  pub vain_behind : (a b c : L) → AsksInVain accepts a b → AsksInVain accepts b c → AsksInVain accepts a c
  vain_behind a b c before behind = calls_behind a b c behind.0 before behind.1

  pub gives_behind : (a b c : L) (arrival : Accepted) → AsksInVain accepts a b
      → Gives accepts b arrival c → Gives accepts a arrival c
  gives_behind a b c arrival before gives = (gives.0, vain_behind a b gives.0 before gives.1, gives.2)

  -- the connections that were delivered were accepted
  pub deals_accepted : {H : Type 0} (takes : H → Accepted → Type 0) (busy idle : H → Type 0) (senders : List H) (k : ℕ)
      (a b : L) → Deals accepts takes busy idle senders k a b → GivesSoMany accepts k a b
  deals_accepted takes busy idle senders zero a b same = same
  deals_accepted takes busy idle senders (suc k) a b (mid, arrival, sender, before, gives, turn, taken) =
      (mid, arrival, deals_accepted takes busy idle senders k a mid before, gives)

  -- if the result is the number of delivered connections, as many were accepted
  pub dealt_accepted : {H E : Type 0} (takes : H → Accepted → Type 0) (busy idle : H → Type 0) (senders : List H)
      (first : L) (end : Result ℕ E) → IfOk end (λ k. (left : L) × Deals accepts takes busy idle senders k first left)
      → IfOk end (λ k. (left : L) × GivesSoMany accepts k first left)
  dealt_accepted takes busy idle senders first (Ok k) (left, deals) =
      (left, deals_accepted takes busy idle senders k first left deals)
  dealt_accepted takes busy idle senders first (Err why) deals = tt
