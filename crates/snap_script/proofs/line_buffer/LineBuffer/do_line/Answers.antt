use Rattle.std.proofs.{Common.◌<◌, Common.length, Common.arith, lemmas.Bool.Decides.nat_tests}
use Rattle.snap_script.proofs.Steps.{done_empty, done_on, prints, prints_part, some_list, unreadable}
use Rattle.snap_script.specs.Script.{full_lines}
use Rattle.snap_script.proofs.line_buffer.LineBuffer.do_line.Goals as goal

pub returns-then-is_empty-clause-ok : goal.returns-then-is_empty-clause-ok
returns-then-is_empty-clause-ok g c = λ done old is h.
    done_empty h c.args.self.now.line.items (grind (arith, nat_tests)) is

pub returns-in-Ok-write_flushed-clause-ok : goal.returns-in-Ok-write_flushed-clause-ok
returns-in-Ok-write_flushed-clause-ok g c = λ done old is h.
    let some : 0 < length c.args.self.now.line.items = grind (arith, nat_tests) in
    let on = rw c.deref.ensures.value at c.in-Ok.ensures.ok in
    done_on h _ some _ _ on _ is (rw c.deref-2.ensures.value at c.in-Ok-write_flushed.ensures.whole)

pub returns-in-Err-clause-err : goal.returns-in-Err-clause-err
returns-in-Err-clause-err g c = λ done old is h.
    let some : 0 < length c.args.self.now.line.items = grind (arith, nat_tests) in
    let part = rw c.deref-2.ensures.value at c.in-Err.ensures.beginning in
    let on = rw c.deref.ensures.value at c.in-Ok.ensures.ok in
    ((λ after left whole. (is, whole)), prints_part h _ some _ _ on _ part.0 part.1)

pub returns-in-Err-Fault-clause-err : goal.returns-in-Err-Fault-clause-err
returns-in-Err-Fault-clause-err g c = λ done old is h.
    let line = c.args.self.now.line.items in
    let some : 0 < length line = grind (arith, nat_tests) in
    let halts = rw (c.in-Err-Fault.field-0-is, c.deref.ensures.value) at c.in-Err-Fault.ensures.err in
    let bad = unreadable (full_lines done) h.text _ line c.in-Err-Fault.fault h.played halts in
    ((λ after left whole. (some_list line some, is, whole, bad)), prints h)
