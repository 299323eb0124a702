use Rattle.std.proofs.Common.{◌≡◌, ◌&&◌, Bool, true, false, refl, sym, ◌∙◌}
use Rattle.std.proofs.lemmas.{List.map_push, List.map-id, List.Elements.All-push}
use Rattle.std.proofs.lemmas.Iterator.{Adapters.YieldsList-from_vec, Consumers.YieldsList-end}
use Rattle.snap_server.proofs.threads.have_served.Goals as goal

both : (a b : Bool) → a && b ≡ true → (a ≡ true) × (b ≡ true)
both true b is = (refl, is)
both false b is = let wrong : false ≡ true = is in absurd cc

pub threads-preserved : goal.threads-preserved
threads-preserved g c = λ yes.
    let each = both c.threads.all c.join-all.result yes in
    rw map_push (All-push g.K.Work.serves _ _ (c.threads.invariant each.0) (c.join-all.ensures each.1))

pub returns : goal.returns
returns g c =
    let gives = c.into_iter-thread-iterator.ensures.into_iter_gives in
    let all = YieldsList-from_vec {s = c.into_iter-thread-iterator.result} c.args.threads.items
    gives.0 (gives.1 ∙ c.args.threads.ok.0) in
    let end = YieldsList-end all c.threads.yielded c.threads.thread-iterator c.threads.yielded_by
    c.next.result c.next.new.self c.in-None.is c.next.ensures.steps in
    λ yes. rw (sym end.0 ∙ map-id c.threads.yielded) (c.threads.invariant yes)
