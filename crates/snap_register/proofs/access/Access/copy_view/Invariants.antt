use Rattle.std.proofs.Common.{◌≡◌}
use Rattle.snap_register.specs.declared.view.View.TheVariants.{Collected, Borrowed}
use Rattle.snap_register.{specs.Held.held, specs.Held.taken, specs.Words.behind, specs.Words.size_at}
use Rattle.snap_register.{specs.Steps.view_of, proofs.Drafts.HasAppended}
use Rattle.snap_register.proofs.access.Access.copy_view.Given as goal

abbrev pub invariant-loop-k : goal.invariant-loop-k
invariant-loop-k l = HasAppended l.initial.self l.self l.fn.end.at l.to l.k (taken (view_of l.initial.self) Collected)

abbrev pub invariant-loop : goal.invariant-loop
invariant-loop l = record {
  copied : HasAppended l.initial.self l.self l.fn.end.at l.to l.counter (taken (view_of l.initial.self) (Borrowed l.j));
  from : l.from ≡ behind (held (view_of l.initial.self) l.j) (size_at (held (view_of l.initial.self) l.j) 0) l.counter;
}
