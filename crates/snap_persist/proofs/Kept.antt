-- The parts of a segment file that writes to other parts leave unchanged.
use Rattle.std.proofs.Common.{rules, ◌≡◌, ◌⊎◌, inl, inr, ⊎_elim, ℕ, ◌+◌, ◌-◌, ◌<◌, ◌≤◌, List, [], ◌∷◌, length}
use Rattle.std.proofs.Common.{slice_index, sym, ◌∙◌, ap, arith}
use Rattle.std.proofs.lemmas.Bool.{cases_lt, or_parts, or_from}
use Rattle.snap_disk.specs.Laws.{out_apart, part_left, part-cons, index-part, settled_closed_twice}
use Rattle.snap_disk.specs.Device.{Device, IsSettled, MayLeave, part, opened}
use Rattle.snap_slot.specs.Layout.{zeros, gate_block, gate_at, body_at, Open, IsClosed, Head}
use Rattle.snap_slot.specs.declared.layout.TheConstants.{BLOCK_LEN}
use Rattle.snap_slot.proofs.Blocks.{head_of_block, head_in_block}

-- two ranges apart: one of them ends before the other begins
pub apart : (lo m at n : ℕ) → (at < lo + m → at + n ≤ lo) → (lo + m ≤ at) ⊎ (at + n ≤ lo)
apart lo m at n h = ⊎_elim (λ low. inr (h low)) (λ high. inl high) (cases_lt at (lo + m))

module _ (d : Device) (settled : IsSettled d) (b : List ℕ) where
  -- a range apart from the n open places is unchanged
  pub kept : (at n : ℕ) → MayLeave (opened at n d) b → (lo m : ℕ) → (at < lo + m → at + n ≤ lo)
      → part lo m b ≡ part lo m d.bytes
  kept at n left lo m out = part_left lo m (opened at n d) b left (search (rules, apart))

  -- a range apart from two open ranges is unchanged
  pub kept_twice : (at n then_at j : ℕ) → MayLeave (opened then_at j (opened at n d)) b → (lo m : ℕ)
      → (at < lo + m → at + n ≤ lo) → (then_at < lo + m → then_at + j ≤ lo) → part lo m b ≡ part lo m d.bytes
  kept_twice at n then_at j left lo m out then_out = part_left lo m (opened then_at j (opened at n d)) b left
      (λ p from below. settled_closed_twice at n then_at j d settled p (search (rules, apart))
      (out_apart lo m then_at j (apart lo m then_at j then_out) p from below))

-- with more places open a crash may still leave all that it could before
pub inner_opened_leaves : (at n below j : ℕ) (d : Device) (b : List ℕ) → MayLeave (opened at n d) b
    → MayLeave (opened at n (opened below j d)) b
inner_opened_leaves at n below j d b left = search (rules, or_parts, or_from)

module _ (a b : List ℕ) where
  pub head_kept : (i m : ℕ) → part 0 BLOCK_LEN b ≡ part 0 BLOCK_LEN a → Head a i m → Head b i m
  head_kept i m same head = search (rules, head_of_block, head_in_block)

  pub open_kept : (s k : ℕ) (v : List ℕ) → part (gate_at s) BLOCK_LEN b ≡ part (gate_at s) BLOCK_LEN a
      → part (body_at s) BLOCK_LEN b ≡ part (body_at s) BLOCK_LEN a → Open a s k v → Open b s k v
  open_kept s k v gate body was = search rules

  pub closed_kept : (s : ℕ) → part (gate_at s) BLOCK_LEN b ≡ part (gate_at s) BLOCK_LEN a → IsClosed a s → IsClosed b s
  closed_kept s gate was = record { gate = was.gate; closed = was.closed; is = gate ∙ was.is }

  -- a gate block of which only the gate changes is a gate block with the new gate
  pub gate_changed : (at : ℕ) → length b ≡ length a → at + BLOCK_LEN ≤ length a
      → part (at + 1) (BLOCK_LEN - 1) b ≡ part (at + 1) (BLOCK_LEN - 1) a → (g : ℕ) → part at BLOCK_LEN a ≡ gate_block g
      → part at BLOCK_LEN b ≡ gate_block (slice_index b at)
  unfolding gate_block
  gate_changed at size within same g was =
      let before : slice_index a at ∷ part (at + 1) (BLOCK_LEN - 1) a ≡ g ∷ zeros (BLOCK_LEN - 1) =
      sym (part-cons at (BLOCK_LEN - 1) a (omega (arith, within))) ∙ was in
      let rest : part (at + 1) (BLOCK_LEN - 1) a ≡ zeros (BLOCK_LEN - 1) = cc in
      part-cons at (BLOCK_LEN - 1) b (omega (arith, within, size))
      ∙ ap (λ (l : List ℕ). slice_index b at ∷ l) (same ∙ rest)

-- after a write of one byte, that byte is read there
pub byte_stands : (at x : ℕ) (b : List ℕ) → part at 1 b ≡ x ∷ [] → slice_index b at ≡ x
byte_stands at x b stands =
    let plain : at + 0 ≡ at = omega arith in
    ap (λ (p : ℕ). slice_index b p) (sym plain) ∙ sym (index-part at 1 0 b (omega arith))
    ∙ ap (λ (l : List ℕ). slice_index l 0) stands
