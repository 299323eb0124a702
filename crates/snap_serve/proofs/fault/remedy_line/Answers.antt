use Rattle.std.proofs.Common.{◌≡◌, ◌<◌, ◌≤◌, ℕ, List, Some, ap, arith, get_or, length, refl}
use Rattle.std.proofs.Common.{slice_get, string_bytes, sym, ◌∙◌}
use Rattle.std.proofs.lemmas.Option.{IfSome_then, same_Some, slice_get_read, slice_get_within}
use Rattle.snap_serve.proofs.fault.remedy_line.Goals as goal

none_there : {A : Type 0} (xs ys : List A) (k : ℕ) (x : A) → xs ≡ ys → length xs ≤ k → slice_get ys k ≡ Some x → ⊥
none_there xs ys k x same out at =
    let inside = slice_get_within ys k x at in let long = ap length same in omega arith

one_there : {A : Type 0} (xs ys : List A) (k : ℕ) (x y : A) → xs ≡ ys → k < length xs
    → x ≡ get_or xs k x → slice_get ys k ≡ Some y → x ≡ y
one_there xs ys k x y same inside is at = same_Some x y
    (sym (slice_get_read xs (length xs) k x refl inside is) ∙ ap (λ zs. slice_get zs k) same ∙ at)

pub returns-in_default : goal.returns-in_default
returns-in_default g c = λ file at other. absurd (none_there c.deref.result.now _ _ file
    c.deref.ensures.value c.in_default.ensures.lookup.3 at)

pub returns-in-Ok : goal.returns-in-Ok
returns-in-Ok g c =
    IfSome_then c.line_of.result c.line_of.ensures (λ line is file at other.
    let same = one_there c.deref.result.now _ _ c.in-Some.file.now file c.deref.ensures.value
    c.in-Some.ensures.lookup.3.0 c.in-Some.ensures.lookup.1 at in
    (string_bytes c.in-Ok.remedy, rw same at is))
