use Rattle.std.proofs.Common.{◌≡◌, ◌+◌, ◌-◌, None, length}
use Rattle.std.specs.Io.KnownBytes.{Consumes}
use Rattle.snap_frame.specs.{Messages.max_payload, Stream.IsBytes, Stream.IsPartial}
use Rattle.snap_client.proofs.exchange.hear.Given as goal

abbrev pub invariant-loop-n : goal.invariant-loop-n
invariant-loop-n g l = record {
  going : l.feed.failure ≡ None;
  partial : IsPartial l.feed.bytes;
  bytes : IsBytes l.feed.bytes;
  read : Consumes (g.R.Read.remaining l.fn.reader) (g.R.Read.remaining l.reader) l.feed.bytes;
}

abbrev pub decreases-loop-n : goal.decreases-loop-n
decreases-loop-n g l = 4 + max_payload - length l.feed.bytes
