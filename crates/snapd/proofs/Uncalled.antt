-- Files on which no call was made have never failed.
use Rattle.std.proofs.Common.{ℕ, ◌-◌, ◌^◌, ◌<◌, List, All, subst, sym, lit<}
use Rattle.std.proofs.lemmas.List.Elements.{All-weaker}
use Rattle.snap_devices.specs.{FileDisk.IsUncalled, declared.file.FileOf.FileOf}

pub headroom : {R S : Type 0} (files : List (FileOf R S)) → All IsUncalled files
    → All (λ d. d.failures < 2 ^ 64 - 1) files
headroom files are = All-weaker IsUncalled (λ d. d.failures < 2 ^ 64 - 1)
    (λ d is. let P : ℕ → Type 0 = λ n. n < 2 ^ 64 - 1 in subst P (sym is.failures) (lit< tt))
    files are
