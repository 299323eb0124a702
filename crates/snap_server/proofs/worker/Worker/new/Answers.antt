use Rattle.snap_server.proofs.worker.Worker.new.Goals as goal

pub returns : goal.returns
returns g c = record {
  service = c.new-4.ensures.service;
  mailbox = c.in-Ok-new.ensures.mailbox;
  sender = c.in-Ok-new.ensures.sender;
  faults = tt;
}
