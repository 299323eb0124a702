-- All bytes of a new file.
use Rattle.std.proofs.Common.{◌≡◌, inl, inr, ℕ, List, [], ◌∷◌, ◌++◌, length, take, drop, slice_index, length-drop, sym}
use Rattle.std.proofs.{lemmas.List.take-append-drop, lemmas.List.take_all, Common.◌∙◌, Common.ap, Common.arith}
use Rattle.snap_disk.specs.Laws.{part_kept, index-part, part-cons}
use Rattle.snap_disk.specs.Device.{Device, part, IsWritten}
use Rattle.snap_slot.specs.{Layout.header_front, Layout.slots_of, States.IsPrepared}
use Rattle.snap_segment.specs.Creation.{new_file}

-- a file is the bytes before its header's gate, that gate, and the bytes after it
in_three : (b : List ℕ) → length b ≡ 28672 → b ≡ part 0 4095 b ++ (slice_index b 4095 ∷ part 4096 24576 b)
unfolding part
in_three b long = sym (take-append-drop 4095 b) ∙ ap (λ (l : List ℕ). take 4095 b ++ l) (sym (take_all 24577
    (drop 4095 b) (omega (arith, length-drop 4095 b, long))) ∙ part-cons 4095 24576 b (omega (arith, long)))

-- after the gate of a prepared file was opened, these are all bytes
pub made_bytes : (i n k : ℕ) (v : List ℕ) (d d2 : Device) → IsPrepared i n k v d
    → IsWritten 4095 (0xA5 ∷ []) d d2 → d2.bytes ≡ new_file i n k v
made_bytes i n k v d d2 is done =
    let b = d2.bytes in
    let front : part 0 4095 b ≡ header_front i n =
    part_kept 0 4095 4095 1 d.bytes b done.elsewhere (inl (omega arith)) ∙ is.front in
    let gate : slice_index b 4095 ≡ 0xA5 =
    sym (index-part 4095 1 0 b (omega arith)) ∙ ap (λ (l : List ℕ). slice_index l 0) done.stands in
    let behind : part 4096 24576 b ≡ slots_of k v =
    part_kept 4096 24576 4095 1 d.bytes b done.elsewhere (inr (omega arith)) ∙ is.slots in
    let whole = in_three b (done.elsewhere.size ∙ is.size) in cc
