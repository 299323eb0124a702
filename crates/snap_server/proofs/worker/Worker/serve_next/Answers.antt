use Rattle.std.proofs.Common.{◌≡◌, ◌⊎◌, ◌++◌, ◌∷◌, [], refl, sym, subst}
use Rattle.snap_server.specs.declared.connection.TheConstants.{PIECE}
use Rattle.snap_server.proofs.Round.{first_turn, first_list, turned_list}
use Rattle.snap_server.proofs.worker.Worker.serve_next.Goals as goal

pub returns-in_default-clause-moves : goal.returns-in_default-clause-moves
returns-in_default-clause-moves g c = ([], [], c.next.ensures.service)

pub returns-in-Some-turn-clause-turn : goal.returns-in-Some-turn-clause-turn
returns-in-Some-turn-clause-turn g c = λ key rest items.
    first_turn g.S.Service.gives PIECE _ _ _ _ c.args.self.now.sessions.listed.items
    c.next.new.self.listed.items rest c.in-Some.key key c.args.self.now.sessions.connections
    c.next.new.self.connections c.turn.new.self.connections c.let_go.new.sessions.connections
    c.in-Some.ensures.first c.next.ensures.service c.in-Some.ensures.sessions
    c.in-Some.ensures.others c.turn.ensures.rounds c.turn.ensures.others c.let_go.ensures.service
    c.let_go.ensures.same c.let_go.ensures.others items

pub returns-in-Some-turn-clause-order : goal.returns-in-Some-turn-clause-order
returns-in-Some-turn-clause-order g c = λ key rest items.
    subst (λ keys. (keys ≡ rest) ⊎ (keys ≡ rest ++ key ∷ [])) (sym c.let_go.ensures.order)
    (first_list c.args.self.now.sessions.listed.items c.next.new.self.listed.items rest
    c.turn.new.self.listed.items c.in-Some.key key c.in-Some.ensures.first
    (turned_list c.next.new.self.connections c.turn.new.self.connections c.in-Some.key
    c.next.new.self.listed.items c.turn.new.self.listed.items c.turn.ensures.unlisted
    c.turn.ensures.kept c.turn.ensures.behind) items)

pub returns-in_default-turn-clause-turn : goal.returns-in_default-turn-clause-turn
returns-in_default-turn-clause-turn g c = λ key rest items.
    first_turn g.S.Service.gives PIECE _ _ _ _ c.args.self.now.sessions.listed.items
    c.next.new.self.listed.items rest c.in-Some.key key c.args.self.now.sessions.connections
    c.next.new.self.connections c.turn.new.self.connections c.turn.new.self.connections
    c.in-Some.ensures.first c.next.ensures.service c.in-Some.ensures.sessions
    c.in-Some.ensures.others c.turn.ensures.rounds c.turn.ensures.others refl (λ d at. at)
    (λ other apart. refl) items

pub returns-in_default-turn-clause-order : goal.returns-in_default-turn-clause-order
returns-in_default-turn-clause-order g c = λ key rest items.
    first_list c.args.self.now.sessions.listed.items c.next.new.self.listed.items rest
    c.turn.new.self.listed.items c.in-Some.key key c.in-Some.ensures.first
    (turned_list c.next.new.self.connections c.turn.new.self.connections c.in-Some.key
    c.next.new.self.listed.items c.turn.new.self.listed.items c.turn.ensures.unlisted
    c.turn.ensures.kept c.turn.ensures.behind) items
