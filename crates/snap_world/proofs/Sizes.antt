-- The sizes of actors that represent some state.
use Rattle.std.proofs.Common.{rules, ◌≡◌, ℕ, ◌<◌, ◌≤◌, length, arith}
use Rattle.std.proofs.{lemmas.Nat.pow_below, Math.Logic.∥∥₁_elim, Props.props}
use Rattle.std.specs.{Vec.vec_len}
use Rattle.snap_world.specs.{declared.writer.WriterPhase.WriterPhase, declared.actors.Actors.Actors}
use Rattle.snap_world.specs.{inside.Steps.phases_of_actors, inside.Stands.Stand, Phases.WriterIs, Answers.all_of}
use Rattle.snap_world.proofs.{PhaseMoves.writer_fits, PhaseMoves.writer_moved}

module _ (w : Actors) (t : Stand w) where
  pub segments_least : 0 < w.segments
  segments_least = ∥∥₁_elim t (hlevel props) (λ q. q.1.least)

  pub segments_most : w.segments ≤ 16
  segments_most = ∥∥₁_elim t (hlevel props) (λ q. q.1.most)

  writers_size : length w.writers.items ≡ w.segments
  writers_size = ∥∥₁_elim t (hlevel props) (λ q. q.1.writers_n)

  registers_size : length w.registers.items ≡ w.segments
  registers_size = ∥∥₁_elim t (hlevel props) (λ q. q.1.registers.size)

  -- a segment has a writer and a register
  pub segment_fits : (i : ℕ) → i < w.segments → i < vec_len w.writers
  segment_fits i l = search (rules, writers_size)

  pub register_fits : (i : ℕ) {p : WriterPhase} → WriterIs (phases_of_actors w) i p → i < vec_len w.registers
  register_fits i is = search (rules, writers_size, registers_size, writer_fits)

-- a scan of all segments names at least one
pub all_some : (n : ℕ) → 0 < n → 0 < all_of n
all_some n pos = let more = pow_below 0 n pos in omega arith

-- the sizes that the code relies on
pub ruleset sizes = (segments_least, segments_most, register_fits, all_some, writer_moved)
