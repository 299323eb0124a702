use Rattle.std.proofs.Common.{◌∙◌, ◌++◌, ap, length}
use Rattle.std.specs.Int.{w32, w64, to_be_bytes}
use Rattle.snap_frame.proofs.Behind.{appended}
use Rattle.snap_frame.proofs.entries.put_value.Goals as goal

pub returns-clause-items : goal.returns-clause-items
returns-clause-items c = appended c.args.out.now.items (to_be_bytes w64 c.args.number)
    (to_be_bytes w32 (length c.args.value.now)) c.args.value.now _ _ _ (c.extend_reserved.ensures.items
    ∙ ap (λ xs. c.args.out.now.items ++ xs) c.to_be_bytes.ensures) (c.extend_reserved-2.ensures.items
    ∙ ap (λ xs. c.extend_reserved.new.self.items ++ xs) (c.to_be_bytes-2.ensures
    ∙ ap (to_be_bytes w32) c.len.ensures.value)) (c.extend_reserved-3.ensures.items
    ∙ ap (λ xs. c.extend_reserved-2.new.self.items ++ xs) c.as_slice.ensures)
