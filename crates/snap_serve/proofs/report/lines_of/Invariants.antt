use Rattle.std.proofs.Common.{◌≡◌, flat_map, string_bytes, take}
use Rattle.snap_serve.specs.Serve.{listening_line}
use Rattle.snap_serve.proofs.report.lines_of.Given as goal

abbrev pub invariant-places : goal.invariant-places
invariant-places l = string_bytes l.lines ≡ flat_map listening_line (take l.endpoint-index l.fn.endpoints)
