use Rattle.std.proofs.Common.{Bor, ℕ, List}
use Rattle.snap_serve.proofs.Remedies.{remedied}
use Rattle.snap_serve.proofs.fault.HostFault.report.Goals as goal

pub returns-in-Refused-clause-says : goal.returns-in-Refused-clause-says
returns-in-Refused-clause-says g c =
    rw c.in-Refused.is (remedied {F = Bor (List ℕ)} (λ file. file.now) c.args.order.now.files.items
    c.in-Refused.segment c.in-Refused.why c.in-Refused.len c.remedy_line-more.result
    c.complain_twice.result _ _ c.remedy_line-more.ensures c.complain_twice.ensures.says
    c.complain_twice.ensures.none)
