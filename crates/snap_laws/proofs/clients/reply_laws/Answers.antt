use Rattle.snap_laws.proofs.Replies.{stored, snapshot, snapshot_part, replied}
use Rattle.snap_laws.proofs.clients.reply_laws.Goals as goal

pub returns-clause-stored : goal.returns-clause-stored
returns-clause-stored c = stored

pub returns-clause-scanned : goal.returns-clause-scanned
returns-clause-scanned c = snapshot

pub returns-clause-part : goal.returns-clause-part
returns-clause-part c = snapshot_part

pub returns-clause-replied : goal.returns-clause-replied
returns-clause-replied c = replied
