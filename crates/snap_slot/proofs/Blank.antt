-- A file that is being formatted, and the file of a new segment.
use Rattle.std.proofs.Common.{rules, false, ◌≡◌, ◌≢◌, ◌⊎◌, inl, inr, ⊎_elim, ℕ, ◌+◌, ◌*◌, ◌%◌, ◌<◌, ◌≤◌, List, [], ◌∷◌}
use Rattle.snap_disk.specs.Device.{Device, IsSettled, part, opened, MayLeave, DiffersWithin, IsTouched, IsSynced}
use Rattle.snap_slot.specs.Layout.{slot_of, next_slot, spare_slot, body_at, header_front, slots_of, fresh_file, Open}
use Rattle.snap_slot.proofs.Blocks.{part-between, part-end, part-part, length-header_front, slots_gate, slots_body}
use Rattle.std.proofs.Common.{length, slice_index, refl, sym, ◌∙◌, ap, arith, append_assoc, length-append}
use Rattle.std.proofs.lemmas.{List.get_or-append_right, Bool.cases_eq}
use Rattle.snap_disk.specs.{Laws.part_kept, Laws.index-part, Laws.settled_opened, Device.IsWritten}
use Rattle.snap_slot.specs.{Layout.IsClosed, Layout.Head, Layout.IsUnformatted, Layout.IsFileOf, States.IsAtRest}
use Rattle.snap_slot.{proofs.Blocks.slots_closed, proofs.Blocks.length-slots_of, specs.States.IsPrepared}
use Rattle.snap_history.specs.Limits.{IsNumber, IsShort}

-- a prepared file, of which only the header's gate may still change
module _ (i n k : ℕ) (v : List ℕ) (below : i < n) (few : n ≤ 16) (small : IsNumber k) (fits : IsShort
    v) (d : Device) (is : IsPrepared i n k v d) where
  block : (at : ℕ) (b : List ℕ) → DiffersWithin 4095 1 d.bytes b → at + 4096 ≤ 24576
      → part (4096 + at) 4096 b ≡ part at 4096 (slots_of k v)
  block at b same within = part_kept (4096 + at) 4096 4095 1 d.bytes b same (inr (omega arith))
      ∙ sym (part-part 4096 24576 at 4096 d.bytes within) ∙ ap (part at 4096) is.slots

  its_slot : (b : List ℕ) → DiffersWithin 4095 1 d.bytes b → Open b (slot_of k) k v
  its_slot b same =
      let place : body_at (slot_of k) ≡ 4096 + (8192 * (k % 3) + 4096) = omega arith in
      record {
        gate_open = block (8192 * (k % 3)) b same (omega arith) ∙ slots_gate k v fits;
        holds = rw place (block (8192 * (k % 3) + 4096) b same (omega arith) ∙ slots_body k v fits);
        number = small;
        slot = refl;
        fits = fits;
      }

  other_slot : (b : List ℕ) (t : ℕ) → DiffersWithin 4095 1 d.bytes b → t < 3 → t ≢ slot_of k → IsClosed b t
  other_slot b t same low other = search (rules, block, slots_closed)

  header : (b : List ℕ) → DiffersWithin 4095 1 d.bytes b → slice_index b 4095 ≡ 0xA5 → Head b i n
  header b same opens = record {
    front = part_kept 0 4095 4095 1 d.bytes b same (inl (omega arith)) ∙ is.front;
    gate = opens;
    below = below;
    few = few;
  }

  -- once that gate is open, the file is whole
  pub whole : (b : List ℕ) → DiffersWithin 4095 1 d.bytes b → slice_index b 4095 ≡ 0xA5 → IsFileOf i n k v b
  whole b same opens = record {
    size = same.size ∙ is.size;
    head = header b same opens;
    holds = record {
      here = its_slot b same;
      next = other_slot b (next_slot (slot_of k)) same (omega arith) (omega arith);
      spare = inl (other_slot b (spare_slot (slot_of k)) same (omega arith) (omega arith));
    };
  }

  pub unformatted_or_whole : (b : List ℕ) → DiffersWithin 4095 1 d.bytes b → IsUnformatted b ⊎ IsFileOf i n k v b
  unformatted_or_whole b same = search (rules, ⊎_elim, whole, cases_eq)

  -- a crash during the write of the gate leaves an unformatted file or the whole one
  pub gate_leaves : (b : List ℕ) → MayLeave (opened 4095 1 d) b → IsUnformatted b ⊎ IsFileOf i n k v b
  gate_leaves b left = unformatted_or_whole b (settled_opened 4095 1 d b is.settled left)

  at_rest : (e : Device) → IsSettled e → DiffersWithin 4095 1 d.bytes e.bytes
      → slice_index e.bytes 4095 ≡ 0xA5 → IsAtRest i n k v false e
  at_rest e settled same opens = record {
    settled = settled;
    size = same.size ∙ is.size;
    head = header e.bytes same opens;
    here = its_slot e.bytes same;
    next = other_slot e.bytes (next_slot (slot_of k)) same (omega arith) (omega arith);
    spare = other_slot e.bytes (spare_slot (slot_of k)) same (omega arith) (omega arith);
  }

  -- after that write and a sync the device is at rest
  pub formatted : (d2 : Device) → IsWritten 4095 (0xA5 ∷ []) d d2 → IsAtRest i n k v false d2
  formatted d2 done = at_rest d2 done.settled done.elsewhere
      (sym (index-part 4095 1 0 d2.bytes (omega arith)) ∙ ap (λ (l : List ℕ). slice_index l 0) done.stands)

-- after writes of the header's front and of the slots, and a sync, the file is prepared
pub prepared : (i n k : ℕ) (v front slots : List ℕ) (a b c : Device) → IsShort v → length b.bytes ≡ 28672
    → front ≡ header_front i n → length front ≡ 4095 → slots ≡ slots_of k v → part 0 (length front) a.bytes ≡ front
    → IsTouched 4096 (length slots) a b → part 4096 (length slots) b.bytes ≡ slots → IsSynced b c → IsPrepared i n k v c
prepared i n k v front slots a b c fits size is_header long is_slots header touched there synced =
    let all : length slots ≡ 24576 = rw is_slots (length-slots_of k v fits) in
    record {
      settled = synced.settled;
      size = rw synced.same size;
      front = rw synced.same (part_kept 0 4095 4096 (length slots) a.bytes b.bytes touched.bytes_elsewhere
          (inl (omega arith)) ∙ (rw long at header) ∙ is_header);
      slots = rw synced.same ((rw all at there) ∙ is_slots);
    }

-- the header's gate in a block that was read
pub gate_read : (block bytes : List ℕ) → block ≡ part 0 4096 bytes → slice_index block 4095 ≡ slice_index bytes 4095
gate_read block bytes is = rw is (index-part 0 4096 4095 bytes (omega arith))

-- The whole file of a new segment:

fresh_length : length (slots_of 0 []) ≡ 24576
fresh_length = length-slots_of 0 [] (omega arith)

module _ (i n : ℕ) where
  pub fresh_front : part 0 4095 (fresh_file i n) ≡ header_front i n
  unfolding fresh_file
  fresh_front = part-between 0 4095 [] (header_front i n) (0xA5 ∷ slots_of 0 []) refl (length-header_front i n)

  fresh_header_gate : slice_index (fresh_file i n) 4095 ≡ 0xA5
  unfolding fresh_file
  fresh_header_gate = search (rules, get_or-append_right, length-header_front)

  fresh_behind : part 4096 24576 (fresh_file i n) ≡ slots_of 0 []
  unfolding fresh_file
  fresh_behind = rw (← append_assoc (header_front i n) (0xA5 ∷ []) (slots_of 0 []))
      (search (rules, part-end, length-append, length-header_front, fresh_length))

  pub length-fresh_file : length (fresh_file i n) ≡ 28672
  unfolding fresh_file
  length-fresh_file =
      omega (arith, length-append (header_front i n) (0xA5 ∷ slots_of 0 []), length-header_front i n, fresh_length)

-- a settled device that holds the file of a new segment is at rest
pub fresh_rests : (i n : ℕ) → i < n → n ≤ 16 → (d : Device) → IsSettled d → d.bytes ≡ fresh_file i n
    → IsAtRest i n 0 [] false d
fresh_rests i n below few d settled same =
    let is : IsPrepared i n 0 [] d = record {
      settled = settled;
      size = rw same (length-fresh_file i n);
      front = rw same (fresh_front i n);
      slots = rw same (fresh_behind i n);
    } in
    at_rest i n 0 [] below few (omega arith) (omega arith) d is d settled
    (record { size = refl; elsewhere = λ p out. refl }) (rw same (fresh_header_gate i n))
