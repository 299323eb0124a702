use Rattle.std.proofs.Common.{sym, ◌∙◌}
use Rattle.snap_frame.proofs.Decode.{answered, refused}
use Rattle.snap_frame.proofs.frame_buffer.next_payload.Goals as goal

pub returns-in-Ok : goal.returns-in-Ok
returns-in-Ok c =
    let both = answered c.args.codec.now c.decode-decoded.new.self c.args.bytes.now.items
    c.decode-decoded.new.src.items c.in-Ok.payload c.requires c.all_bytes.ensures
    c.all_bytes-2.ensures c.in-Ok.ensures.next c.in-Ok.ensures.settled in
    record { found = both.0; ready = both.1 }

pub returns-in-OutOfMemory-clause-found : goal.returns-in-OutOfMemory-clause-found
returns-in-OutOfMemory-clause-found c =
    (refused c.args.codec.now c.decode-decoded.new.self c.args.bytes.now.items
    c.decode-decoded.new.src.items c.in-Err.error c.requires c.all_bytes.ensures
    c.in-Err.ensures.next).0 (sym c.kind.ensures ∙ c.in-OutOfMemory.is)

pub returns-in_default : goal.returns-in_default
returns-in_default c = record {
  found = (refused c.args.codec.now c.decode-decoded.new.self c.args.bytes.now.items
      c.decode-decoded.new.src.items c.in-Err.error c.requires c.all_bytes.ensures
      c.in-Err.ensures.next).1 (λ same. c.in_default.not-OutOfMemory (c.kind.ensures ∙ same));
  ready = tt;
}
