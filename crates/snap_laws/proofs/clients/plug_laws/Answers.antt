use Rattle.snap_laws.proofs.Ever.{session_stands, client_stands, before_stands, ever}
use Rattle.snap_laws.proofs.clients.plug_laws.Goals as goal

pub returns-clause-plug : goal.returns-clause-plug
returns-clause-plug g c = λ devices writers start before earlier opened on s kept crashed files size each left. (
  on.any_moment s kept crashed files size each left,
  λ b t same was. session_stands g.D.Disk devices writers opened start before earlier on s kept b same was t,
  λ b qs rs answered same was. client_stands g.D.Disk devices writers opened start before earlier on s kept b same was
      _ _ qs rs answered,
  before_stands g.D.Disk devices writers opened start before earlier on s kept,
)

pub returns-clause-ever : goal.returns-clause-ever
returns-clause-ever g c = ever g.D.Disk g.R.Read.remaining g.W.Write.contents
