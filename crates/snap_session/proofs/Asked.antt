-- What was asked for among the bytes behind a frame.
use Rattle.std.proofs.Common.{ℕ, List, ◌++◌, ap, sym, ◌∙◌, append_assoc}
use Rattle.snap_frame.specs.{Messages.frame, Stream.HasFrame}
use Rattle.snap_session.specs.Asked.{AreAsked, AllAsked}

pub asked_behind : (asked : ℕ → ℕ → List ℕ → Type 0) (xs x rest : List ℕ) → HasFrame xs x rest
    → AreAsked asked xs → AreAsked asked rest
asked_behind asked xs x rest has all before y behind q is = all (frame x ++ before) y behind q
    (has.split ∙ ap (λ zs. frame x ++ zs) is ∙ sym (append_assoc (frame x) before (frame y ++ behind)))

pub asked_anyway : (asked : ℕ → ℕ → List ℕ → Type 0) (xs : List ℕ) → AllAsked asked → AreAsked asked xs
asked_anyway asked xs all before y behind q is asks = all q
