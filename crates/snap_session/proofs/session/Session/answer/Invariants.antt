use Rattle.std.proofs.Common.{[], None, ◌≡◌, ◌≢◌, ◌≤◌, length}
use Rattle.snap_session.specs.Asked.{AreAsked}
use Rattle.snap_session.specs.Talk.{GoesBy, Stays, most_owed}
use Rattle.snap_session.proofs.session.Session.answer.Given as goal

abbrev pub invariant-loop : goal.invariant-loop
invariant-loop g l = record {
  goes : GoesBy l.counter Stays g.S.Service.gives l.fn.service l.service l.fn.self [] [] l.self;
  asked : l.self.over ≡ None → AreAsked g.S.Service.asked l.self.held;
  free : l.self.asked ≡ None;
  bounded : length l.fn.self.owed ≤ most_owed → length l.self.owed ≤ most_owed;
  held : l.self.over ≡ None → length l.self.held ≤ length l.fn.self.held;
  some : l.counter ≢ 0 → l.self.over ≡ None → l.self.owed ≢ [];
}
