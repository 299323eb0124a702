use Rattle.std.proofs.Common.{refl}
use Rattle.snap_args.specs.Grammar.{grammar_of}
use Rattle.snap_args.proofs.grammar.grammar.Goals as goal

pub returns : goal.returns
unfolding grammar_of
returns c =
    let one = c.with_command-all.ensures _ _ c.program.ensures refl in
    let two = c.with_command-all-2.ensures _ _ one refl in
    let three = c.with_command-all-3.ensures _ _ two refl in
    let four = c.with_command-all-4.ensures _ _ three refl in
    let five = c.with_command-all-5.ensures _ _ four refl in
    let six = c.with_command-all-6.ensures _ _ five refl in
    let seven = c.with_command-all-7.ensures _ _ six refl in
    let eight = c.with_command-all-8.ensures _ _ seven refl in
    let nine = c.with_command-all-9.ensures _ _ eight refl in
    let ten = c.with_command-all-10.ensures _ _ nine refl in
    let eleven = c.with_command-all-11.ensures _ _ ten refl in
    let twelve = c.with_command-all-12.ensures _ _ eleven refl in
    c.with_command.ensures _ _ twelve refl
