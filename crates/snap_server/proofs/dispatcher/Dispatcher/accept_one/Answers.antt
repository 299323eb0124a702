use Rattle.std.proofs.Common.{◌≡◌, Some, slice_get, arith}
use Rattle.std.proofs.lemmas.{Grind.common_steps, Option.gets}
use Rattle.snap_server.proofs.dispatcher.Dispatcher.accept_one.Goals.{then-self, else-self}
use Rattle.snap_server.proofs.dispatcher.Dispatcher.accept_one.Goals as goal

pub returns-clause-handed : goal.returns-clause-handed
returns-clause-handed g c =
    let found : slice_get c.if-self.self.senders.now c.if-self.self.next ≡ Some c.in-Some-get.sender.now =
    grind (arith, gets) in
    let taken = c.deliver.ensures c.if-not-deliver.false in
    let came = c.in-Some.ensures.came in
    elim c.if-self.branch [
      | then-self w ↦ let slot = rw w.self-is at found in
          (c.in-Some.arrival, c.in-Some-get.sender.now, came, grind (arith, common_steps), rw w.self-is at taken)
      | else-self w ↦ let slot = rw w.self-is at found in
          (c.in-Some.arrival, c.in-Some-get.sender.now, came, grind (arith, common_steps), rw w.self-is at taken)
    ]

pub returns-clause-in_turn : goal.returns-clause-in_turn
returns-clause-in_turn g c = elim c.if-self.branch [
  | then-self w ↦ rw w.self-is (grind (arith, common_steps))
  | else-self w ↦ rw w.self-is (grind (arith, common_steps))
]
