use Rattle.std.proofs.Common.{◌≡◌, ◌++◌, length, take, drop, ap, ◌∙◌, arith}
use Rattle.std.proofs.Math.Seq.{take-append_seam}
use Rattle.snap_register.specs.{Registers.Mine, Held.held, Words.value_at, Steps.view_of}
use Rattle.snap_register.proofs.Updates.{value_shown}
use Rattle.snap_register.proofs.access.Access.value_bytes.Goals as goal

pub returns-clause-value : goal.returns-clause-value
returns-clause-value c =
    let me = c.args.self.now in
    let out = c.read_value-length.new.out in
    let rest = drop (length out) c.resize.new.self.items in
    let long : c.resize.new.self.len ≡ length out =
    let same = c.read_value-length.ensures.room in
    let len = c.deref_mut.ensures.len in
    let value = ap length c.deref_mut.ensures.value in omega arith in
    let whole : take c.resize.new.self.len (out ++ rest) ≡ out =
    ap (λ n. take n (out ++ rest)) long ∙ take-append_seam out rest in
    value_shown me.seat.table_id (view_of me) c.args.j _ c.requires.looked
    (me.seated.records_are c.args.j c.requires.segment) (c.in_ok-from_vec.ensures.ok ∙ c.truncate.ensures.items
    ∙ ap (take c.read_value-length.result) whole ∙ c.read_value-length.ensures.value
    ∙ ap (λ (m : Mine). value_at (held m.0 c.args.j) 0)
    c.read.ensures.same.2)
