-- Sessions that share a service.
use Rattle.std.proofs.Common.{◌≡◌, ◌↔◌, ◌≤◌, ◌⊎◌, ℕ, [], ◌++◌, Some, None, refl, sym, ◌∙◌, ap, subst, inl, inr, arith}
use Rattle.std.{specs.VecDeque.deque_capacity, proofs.lemmas.Bool.cases_eq}
use Rattle.slab.specs.Slab.{Slab, get, slab_len, Updates}
use Rattle.snap_frame.specs.declared.{request.Request.Request, reply.Reply.Reply}
use Rattle.snap_session.specs.Talk.{Talk, Moves, start}
use Rattle.snap_session.specs.declared.service.Service.{Ghosts}
use Rattle.snap_session.proofs.{Runs.moves_joins, Runs.run_then, Continuation.by_run, TurnRuns.begins}
use Rattle.snap_session.proofs.{SharedService.has_turn, SharedService.shares}
use Rattle.snap_server.specs.SharedService.{IsSession, IsTurn, AreSessions}
use Rattle.snap_server.proofs.Step.{IsStep, same_value, none_there}
use Rattle.snap_server.specs.{declared.connection.Connection.Connection, declared.sessions.Sessions.Sessions}
use Rattle.snap_server.specs.{declared.connection.ConnectionState.TheVariants.Listed, TurnList.Lists}
use Rattle.snap_server.proofs.TurnList.{lists_step}
use mathlib.Core.Logic.{∥∥₁_map}

module _ {S : Type 0} (gives : S → Request → Reply → S → Type 0) where
  -- a poll of a session changes the service by answered requests
  pub moved : (t u : S) (a b : Talk) → IsTurn gives t u a b → Moves gives t u
  moved t u a b turn = grind arith

  -- other sessions' requests were answered
  then_moves : (s t u : S) (talk : Talk) → IsSession gives s t talk → Moves gives t u → IsSession gives s u talk
  then_moves s t u talk one others =
      let o = one.goes in
      record {
        taken = one.taken;
        given = one.given;
        read = one.read;
        writes = one.writes;
        goes = by_run (Moves gives) (Moves gives) gives s t u start one.taken one.given talk o
            (run_then (Moves gives) (moves_joins gives) gives s t u o.payloads (o.replies ++ o.unsaid) o.run others);
      }

  -- there is no connection
  pub none_are : (t : S) (connections : Slab Connection)
      → ((key : ℕ) → get connections key ≡ None) → AreSessions gives t connections
  none_are t connections none = record {
    first = t;
    moves = ([], [], refl);
    each = λ key c at. absurd (none_there connections key (none key) c at);
  }

  -- each connection is unchanged, with its session, or new
  pub still_are : (t : S) (old new : Slab Connection) → AreSessions gives t old
      → ((key : ℕ) (d : Connection) → get new key ≡ Some d
      → (d.session ≡ start) ⊎ ((c : Connection) × (get old key ≡ Some c) × (d.session ≡ c.session)))
      → AreSessions gives t new
  still_are t old new are was = record {
    first = are.first;
    moves = are.moves;
    each = λ key d at. elim (was key d at) [
      | inl new_one ↦ subst (IsSession gives are.first t) (sym new_one) (then_moves are.first are.first t start
          (shares gives are.first start None None) are.moves)
      | inr p ↦ subst (IsSession gives are.first t) (sym p.2) (are.each key p.0 p.1)
    ];
  }

  -- one connection was polled
  pub turned_are : (t u : S) {key : ℕ} {old new : Slab Connection} {c d : Connection} → IsStep key old new c d
      → IsTurn gives t u c.session d.session → AreSessions gives t old → AreSessions gives u new
  turned_are t u {key} {old} {new} {c} {d} step turn are = record {
    first = are.first;
    moves = moves_joins gives are.first t u are.moves (moved t u c.session d.session turn);
    each = λ k e found. elim (cases_eq k key) [
      | inl same ↦
          let is = same_value new key d e step.behind (ap (get new) (sym same) ∙ found) in
          subst (IsSession gives are.first u) (ap (λ (z : Connection). z.session) is)
          (has_turn gives are.first t u start c.session d.session None None None None None None
          (are.each key c step.before) turn)
      | inr other ↦
          then_moves are.first t u e.session (are.each k e (sym (step.others k other) ∙ found))
          (moved t u c.session d.session turn)
    ];
  }

  -- the session hasn't changed
  pub no_turn : (t : S) (a b : Talk) → b ≡ a → IsTurn gives t t a b
  no_turn t a b same = subst (IsTurn gives t t a) (sym same) (begins gives t a None None)

  -- one connection is removed
  pub removed_are : (t : S) (old new : Slab Connection) (key : ℕ) → Updates old new key None
      → AreSessions gives t old → AreSessions gives t new
  removed_are t old new key gone are = grind (arith, still_are, cases_eq, none_there)

  -- one connection is added
  pub added_are : (t : S) (old new : Slab Connection) (key : ℕ) (d : Connection) → Updates old new key (Some d)
      → d.session ≡ start → AreSessions gives t old → AreSessions gives t new
  added_are t old new key d came new_one are = still_are t old new are (λ k e found. elim (cases_eq k key) [
    | inl here ↦
        let is = same_value new key d e came.changed (ap (get new) (sym here) ∙ found) in
        inl (ap (λ (z : Connection). z.session) (sym is) ∙ new_one)
    | inr other ↦ inr (e, sym (came.others k other) ∙ found, refl)
  ])

  -- the table has more capacity
  pub same_are : (t : S) (old new : Slab Connection) → new ≡ record old { capacity = new.capacity }
      → AreSessions gives t old → AreSessions gives t new
  same_are t old new same are = grind (arith, still_are)

-- one of a worker's connections was polled, and its mark is unchanged: the invariants still hold
pub still_holds : {S O : Type 0} {service : Ghosts S O} (self : Sessions S O service) (u : S) {key : ℕ}
    {new : Slab Connection} {was is : Connection} → IsStep key self.connections new was is
    → IsTurn service.gives self.service u was.session is.session → (is.stage ≡ Listed ↔ was.stage ≡ Listed) → record {
      are : ∥ AreSessions service.gives u new ∥₁;
      lists : ∥ Lists self.listed.items new ∥₁;
      room : slab_len new ≤ deque_capacity self.listed;
    }
still_holds {service = service} self u step turn says = record {
  are = ∥∥₁_map self.are (turned_are service.gives self.service u step turn);
  lists = ∥∥₁_map self.lists (lists_step self.listed.items step says);
  room = omega (arith, self.room, step.count);
}
