use Rattle.std.proofs.Common.{◌≡◌, ℕ, ◌⊎◌, inl, inr, ◌∙◌}
use Rattle.snap_scan.specs.declared.next.Next.{TheVariants.Look, TheVariants.Clean, TheVariants.Borrow, Next}
use Rattle.snap_world.proofs.collector.Collector.is_done.Goals as goal

not_look : (v : Next) (j : ℕ) → (v ≡ Clean) ⊎ ((x : ℕ) × (v ≡ Borrow x)) → v ≡ Look j → ⊥
not_look v j (inl clean) e = cc
not_look v j (inr borrow) e = let f : v ≡ Borrow borrow.0 = borrow.1 in cc

pub returns-in-Clean : goal.returns-in-Clean
returns-in-Clean c = record { under_way = λ u. not_look c.next.result u.0 c.in-Clean.is (c.next.ensures.same ∙ u.1) }
