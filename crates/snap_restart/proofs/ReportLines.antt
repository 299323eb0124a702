-- The lines of a report, one after another.
use Rattle.std.proofs.Common.{◌≡◌, ℕ, ◌+◌, List, [], ◌∷◌, ◌++◌, length, ◌≤◌, take, slice_get, Some, arith}
use Rattle.std.proofs.{Common.append-nil, Common.append_assoc, lemmas.List.length-take-le, lemmas.List.take_all}
use Rattle.std.{proofs.lemmas.Option.slice_get_within, specs.Prelude.codes, specs.Fmt.decimal}
use Rattle.snap_register.proofs.Pairs.{take_next}
use Rattle.snap_restart.specs.Report.{recovered_text, lines_text, report_text}
use Rattle.snap_restart.specs.declared.report.{Recovered.Recovered, Report.Report}
use Rattle.snap_slot.specs.Text.{line}

lines_push : (i j : ℕ) (xs : List Recovered) (x : Recovered) → j ≡ i + length xs
    → lines_text i (xs ++ x ∷ []) ≡ lines_text i xs ++ line (recovered_text j x)
lines_push i j [] x e = let same : i ≡ j = omega arith in rw (append-nil, same)
lines_push i j (y ∷ xs) x e =
    let on : j ≡ i + 1 + length xs = omega arith in
    rw (lines_push (i + 1) j xs x on, append_assoc (line (recovered_text i y)) (lines_text (i + 1) xs))

-- the first k lines and the next one
pub lines_next : (xs : List Recovered) (k : ℕ) (x : Recovered) → slice_get xs k ≡ Some x
    → lines_text 0 (take (k + 1) xs) ≡ lines_text 0 (take k xs) ++ line (recovered_text k x)
lines_next xs k x e = grind (arith, slice_get_within, length-take-le, take_next, lines_push)

-- after all lines follows their count
pub lines_all : (xs : List Recovered) (report : Report) (k : ℕ) → xs ≡ report.segments.items → length xs ≤ k
    → lines_text 0 (take k xs) ++ line (codes "segments " ++ decimal (length report.segments.items)) ≡ report_text
    report
lines_all xs report k e all = grind (arith, take_all)
