use Rattle.std.proofs.Common.{◌∙◌, ap, [], ◌∷◌, ◌++◌, length, append_assoc}
use Rattle.std.specs.Int.{w32, w64, to_be_bytes}
use Rattle.snap_frame.proofs.named.NamedValueListEntry.put.Goals as goal

pub returns-clause-items : goal.returns-clause-items
returns-clause-items c =
    let v = c.args.self.now in
    let behind = to_be_bytes w64 v.number ++ (to_be_bytes w32 (length v.value) ++ v.value) in
    c.put_value.ensures.items ∙ ap (λ xs. xs ++ behind) c.extend_reserved.ensures.items
    ∙ append_assoc c.args.out.now.items (v.segment ∷ []) behind
