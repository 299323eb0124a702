use Rattle.std.proofs.Common.{◌≡◌, ℕ, List, subst}
use Rattle.snap_register.specs.Seat.{own_of}
use Rattle.snap_writer.specs.Writer.{number_of}
use Rattle.snap_service.specs.Settled.{IsSettledAt, reply_of}
use Rattle.snap_service.specs.Came.{Came}
use Rattle.snap_service.proofs.writer_lease.Outcome.tell.Goals as goal

pub returns-clause-told : goal.returns-clause-told
returns-clause-told g c =
    let told = c.self.inside.told in
    let P : Came _ → Type 0 = λ o. c.reply_told.result ≡ reply_of (number_of o.writer) o.told in
    let Q : ℕ → Type 0 = λ n. c.reply_told.result ≡ reply_of n told in
    subst P c.self.view_is (subst Q c.reply_told.ensures.number c.reply_told.ensures.told)

pub returns-clause-settled : goal.returns-clause-settled
returns-clause-settled g c i k v own number value =
    let P : Came _ → Type 0 = λ o. IsSettledAt c.reply_told.new.scanner (own_of o.writer.seat)
    o.job.number o.job.value c.reply_told.result in
    let here = subst P c.self.view_is (c.reply_told.ensures.settled _ _ c.self.invariant) in
    let Q : ℕ → Type 0 = λ x. IsSettledAt c.reply_told.new.scanner x c.args.self.job.number
    c.args.self.job.value c.reply_told.result in
    let R : ℕ → Type 0 = λ x. IsSettledAt c.reply_told.new.scanner i x c.args.self.job.value
    c.reply_told.result in
    let S : List ℕ → Type 0 = λ x. IsSettledAt c.reply_told.new.scanner i k x c.reply_told.result in
    subst S value (subst R number (subst Q own here))

pub returns-clause-limits : goal.returns-clause-limits
returns-clause-limits g c = c.reply_told.ensures.limits _ _ c.self.invariant
