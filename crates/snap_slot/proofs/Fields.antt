-- From the fields read from a block to the block itself.
use Rattle.std.proofs.Common.{◌≡◌, ℕ, suc, ◌<◌, ◌^◌, List, ◌∷◌, length, slice_index, sym, ◌∙◌, ap, arith}
use Rattle.snap_disk.specs.{Device.part, Laws.part_whole, Laws.part-cons}
use Rattle.snap_slot.specs.Layout.{zeros, big, gate_block, length_field}
use Rattle.snap_slot.proofs.Blocks.{number_in-only}

-- the length field of a block with the bytes of the number n there is n
pub length_read : (b : List ℕ) (n : ℕ) → part 8 4 b ≡ big 4 n → n < 2 ^ 32 → length_field b ≡ n
length_read b n is low = rw is (number_in-only 4 n (omega (arith, low)))

pub gate_from_zeros : (b : List ℕ) → length b ≡ 4096 → part 1 4095 b ≡ zeros 4095 → b ≡ gate_block (slice_index b 0)
unfolding gate_block
gate_from_zeros b size is = sym (part_whole (suc 4095) b size)
    ∙ part-cons 0 4095 b (omega (arith, size)) ∙ ap (λ (l : List ℕ). slice_index b 0 ∷ l) is
