use Rattle.std.proofs.Common.{ℕ, sym, subst, ap, ◌∙◌}
use Rattle.snap_service.specs.{Counted.next_count, Updated.IsUpdated}
use Rattle.snap_service.specs.{Storer.Queued, Job.JobState}
use Rattle.snap_service.proofs.storer.Storer.next.Goals as goal

pub returns-clause-stored : goal.returns-clause-stored
returns-clause-stored g c =
    let segment : Queued → ℕ = λ q. q.segment in
    let taken : Queued → ℕ = λ q. q.taken in
    let outcome = c.store_one-outcome.result in
    let waited = c.wait.ensures.rest in
    let after = c.take-job.ensures.taken in
    let P : JobState → Type 0 = λ job.
    IsUpdated g.D.Disk c.in_ok-writer.writer outcome.writer job.number job.value outcome.told in
    record {
      writer = c.in_ok-writer.writer;
      own = c.in_ok-writer.ensures ∙ ap segment c.self.view_is ∙ ap segment waited;
      updated = subst P (sym c.store_one-outcome.ensures.job) c.store_one-outcome.ensures.updated;
      same = ap segment after ∙ ap segment waited;
      one = ap taken after ∙ ap next_count (ap taken waited);
      no_more = ap (λ (q : Queued). q.came) after ∙ c.wait.ensures.one c.if-not-wait.false ∙ sym (ap taken after);
    }
