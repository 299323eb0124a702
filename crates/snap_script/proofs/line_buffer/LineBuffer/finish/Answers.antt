use Rattle.std.proofs.Common.{[], refl, append-nil}
use Rattle.snap_script.{proofs.Halts.ends_in, proofs.Steps.prints, specs.declared.run.ScriptEnd.TheVariants.Done}
use Rattle.snap_script.proofs.line_buffer.LineBuffer.finish.Goals as goal

pub returns-in-Ok : goal.returns-in-Ok
returns-in-Ok g c = λ taken left old end t. rw (append-nil taken) at (ends_in t [] left _ Done (refl, end, t.is_line)
    (prints (c.in-Ok.ensures.ok t.done old t.is_line t.has_done)))

pub returns-in-Err : goal.returns-in-Err
returns-in-Err g c = λ taken left old end t.
    let halts = c.in-Err.ensures.err t.done old t.is_line t.has_done in
    rw (append-nil taken) at (ends_in t [] left _ c.in-Err.end (halts.0 [] left end) halts.1)
