use Rattle.std.proofs.Common.{rules}
use mir.Syntax.{of_param}
use denote.Exit.{unseen}
use denote.Param.Send.{Quiet-if}
use Rattle.snap_server.proofs.server.run_threads.Goals as goal

pub scoped-ended-requires : goal.scoped-ended-requires
scoped-ended-requires g c = record {
  at = λ a. (
    (
      search rules,
      search rules,
      search rules,
      record {
        owned = c.type_bounds.send-K.owned;
        leaving = λ k. Quiet-if (k (of_param 2)) unseen unseen (λ x w. tt) (λ x w. tt);
      },
      c.requires.note,
      c.requires.needs,
      c.in-Ok.ensures.items,
    ),
    (
      record {
        owned = c.type_bounds.send-K.owned;
        leaving = λ k. Quiet-if (k (of_param 2)) unseen unseen (λ x w. tt) (λ x w. tt);
      },
      record {
        owned = c.type_bounds.send-B.owned;
        leaving = λ k. Quiet-if (k (of_param 4)) unseen unseen (λ x w. tt) (λ x w. tt);
      },
      record {
        owned = c.type_bounds.send-H-Outcome.owned;
        leaving = λ k. Quiet-if (k (of_param 8)) unseen unseen (λ x w. tt) (λ x w. tt);
      },
      search rules,
      search rules,
      search rules,
    ),
  );
}
