-- Counting one answered request.
use Rattle.std.specs.Prelude.{ℕ, ◌-◌, length, replicate}
use Rattle.snap_disk.specs.Refusal.{code_of}
use Rattle.snap_frame.specs.declared.request.Request.TheVariants.{Update, Scan, Status, Part}
use Rattle.snap_frame.specs.declared.reply.Reply.TheVariants.{Stored, Snapshot, Refused}
use Rattle.snap_frame.specs.Messages.{frame, payload, says}
use Rattle.snap_frame.specs.declared.{request.Request.Request, reply.Reply.Reply}
use Rattle.snap_service.specs.metrics.Numbers.{raised, raised_at, raised_each}
use Rattle.snap_service.specs.declared.metrics.{worker.RequestCounts.RequestCounts, snapshot.TheConstants.REFUSALS}
use Rattle.snap_frame.specs.declared.reply.Reply.TheVariants as reply

-- each number is 0
abbrev pub nothing : RequestCounts
nothing = record {
  updates = 0;
  scans = 0;
  parts = 0;
  statuses = 0;
  refusals =
      replicate REFUSALS 0;
  looks = 0;
  bytes_in = 0;
  bytes_out = 0;
}

-- one more request of this kind
abbrev pub with_request : RequestCounts → Request → RequestCounts
with_request t (Update segment number value) = record t { updates = raised t.updates 1 }
with_request t Scan = record t { scans = raised t.scans 1 }
with_request t Status = record t { statuses = raised t.statuses 1 }
with_request t (Part set) = record t { parts = raised t.parts 1 }

-- one more refusal with its number, if the reply is one
abbrev pub with_reply : RequestCounts → Reply → RequestCounts
with_reply t (Stored number) = t
with_reply t (Snapshot values) = t
with_reply t (reply.Status statuses) = t
with_reply t (reply.Part values) = t
with_reply t (Refused why detail) = record t { refusals = raised_at t.refusals (code_of why - 1) }

-- the looks that the request took, and the bytes of both frames
abbrev pub with_sizes : RequestCounts → Request → Reply → ℕ → RequestCounts
with_sizes t q r looks = record t {
  looks = raised t.looks looks;
  bytes_in = raised t.bytes_in (length (frame (payload q)));
  bytes_out =
      raised t.bytes_out (length (frame (says r)));
}

-- counts with one more answered request
abbrev pub counted : RequestCounts → Request → Reply → ℕ → RequestCounts
counted t q r looks = with_sizes (with_reply (with_request t q) r) q r looks

-- the sum of two counts
abbrev pub together : RequestCounts → RequestCounts → RequestCounts
together a b = record {
  updates = raised a.updates b.updates;
  scans = raised a.scans b.scans;
  parts = raised a.parts b.parts;
  statuses = raised a.statuses b.statuses;
  refusals = raised_each a.refusals b.refusals;
  looks = raised a.looks b.looks;
  bytes_in = raised a.bytes_in b.bytes_in;
  bytes_out = raised a.bytes_out b.bytes_out;
}
