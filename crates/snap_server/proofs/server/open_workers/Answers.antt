use Rattle.std.proofs.Common.{◌≡◌, ◌∷◌, length, ap, refl, sym, ◌∙◌, arith}
use Rattle.std.specs.{List.range_with_len, Vec.Iter.into_iter_items}
use Rattle.snap_server.proofs.Made.{made_more, made_all, made_len, numbered_more, pushed_len}
use Rattle.snap_server.proofs.server.open_workers.Goals as goal

pub push_reserved-requires : goal.push_reserved-requires
push_reserved-requires g c = omega (arith, c.services.invariant.room.0, c.in-Some.ensures.steps.1)

pub push_reserved-requires-in-services : goal.push_reserved-requires-in-services
push_reserved-requires-in-services g c = omega (arith, c.services.invariant.room.1, c.in-Some.ensures.steps.1)

pub services-init : goal.services-init
services-init g c =
    let all = c.into_iter-service-iterator.ensures.into_iter_gives in
    let workers = rw c.in-Ok-Ok.is-0 at c.with_capacity-room.ensures in
    let senders = rw c.in-Ok-Ok.is-1 at c.with_capacity-more.ensures in
    let count = c.len-count.ensures in
    record {
      made = rw workers.items all.0;
      places = rw workers.items refl;
      theirs = rw senders.items refl;
      senders = ap length senders.items ∙ sym (ap length workers.items);
      room = (omega (arith, workers.capacity, workers.len, all.1), omega (arith, senders.capacity, senders.len, all.1));
      long = all.1 ∙ c.args.services.ok.0 ∙ sym (ap length all.0);
    }

pub services-preserved : goal.services-preserved
services-preserved g c =
    let next : into_iter_items c.services.service-iterator ≡ c.in-Some.service ∷ into_iter_items
    c.next.new.self =
    c.in-Some.ensures.steps.0 in
    let one_more = c.push_reserved.ensures.items in
    let door_more = c.push_reserved-in-services.ensures.items in
    record {
      made = made_more _ c.services.workers.items _ c.in_ok-worker.worker _ _ _ c.services.invariant.made one_more
          (next ∙ ap (λ s. s ∷ into_iter_items c.next.new.self)
          (sym (ap (λ gated. gated.service) c.in_ok-worker.ensures.service)));
      places = numbered_more _ c.services.workers.items _ c.in_ok-worker.worker c.services.invariant.places one_more
          (c.in_ok-worker.ensures.mailbox ∙ c.len-place.ensures ∙ c.services.workers.ok.0);
      theirs = numbered_more _ c.services.senders.items _ c.in_ok-worker.sender c.services.invariant.theirs door_more
          (c.in_ok-worker.ensures.sender ∙ c.len-place.ensures ∙ c.services.workers.ok.0
          ∙ sym c.services.invariant.senders);
      senders = pushed_len _ _ _ _ _ _ c.services.invariant.senders door_more one_more;
      room = (
        omega (arith, c.services.invariant.room.0, c.in-Some.ensures.steps.1, c.push_reserved.ensures),
        omega (arith, c.services.invariant.room.1, c.in-Some.ensures.steps.1, c.push_reserved-in-services.ensures),
      );
      long = omega (arith, c.services.invariant.long, c.in-Some.ensures.steps.1, ap length next);
    }

pub services-smaller : goal.services-smaller
services-smaller g c = omega (arith, c.in-Some.ensures.steps.1)

pub returns : goal.returns
returns g c =
    let made = made_all _ _ _ _ c.services.invariant.made (sym c.services.invariant.long ∙ c.in-None.ensures.steps.0) in
    record {
      workers = made;
      places = c.services.invariant.places ∙ ap (range_with_len 0) (made_len _ _ _ made ∙ sym c.args.services.ok.0);
      theirs = c.services.invariant.theirs ∙ ap (range_with_len 0) (c.services.invariant.senders ∙ made_len _ _ _ made
          ∙ sym c.args.services.ok.0);
      faults = tt;
    }
