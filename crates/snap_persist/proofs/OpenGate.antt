-- A store that opens the gate of its new body.
use Rattle.std.proofs.Common.{rules, true, ◌≡◌, ◌≢◌, ⊎_elim, ℕ, ◌+◌, ◌-◌, ◌<◌, ◌≤◌, List, [], ◌∷◌, slice_index, ◌∙◌}
use Rattle.std.proofs.{lemmas.Bool.cases_eq, lemmas.Bool.or_parts, Common.subst, Common.arith}
use Rattle.snap_slot.specs.Layout.{slot_of, next_slot, spare_slot, gate_block, gate_at, Open, IsClosed, Head, IsFileOf}
use Rattle.snap_slot.specs.declared.layout.TheConstants.{BLOCK_LEN, OPEN_GATE}
use Rattle.snap_slot.specs.States.{IsEither, IsAtRest}
use Rattle.snap_disk.specs.Device.{Device, in_range, part, opened, MayLeave, IsWritten}
use Rattle.snap_history.specs.Limits.{IsNumber, IsShort}
use Rattle.snap_persist.proofs.Kept.{kept, head_kept, open_kept, closed_kept, gate_changed, byte_stands}
use Rattle.snap_persist.specs.Device.{IsBodyStored}

module _ (i n k : ℕ) (u v : List ℕ) (small : IsNumber (k + 1)) (fits : IsShort v) (d : Device)
    (ready : IsBodyStored i n k u v d) where
  abbrev s : ℕ
  s = slot_of (k + 1)

  next_is : next_slot (slot_of k) ≡ s
  next_is = omega arith

  -- for the number k + 1 the spare slot is that of k, and the next slot is closed
  after_is : spare_slot (slot_of k) ≡ next_slot s
  after_is = omega arith

  before_is : slot_of k ≡ spare_slot s
  before_is = omega arith

  gate_closed : IsClosed d.bytes s
  gate_closed = subst (λ (x : ℕ). IsClosed d.bytes x) next_is ready.rest.next

  -- a crash may leave any byte in the gate
  module _ (b : List ℕ) (left : MayLeave (opened (gate_at s) 1 d) b) where
    keeps : (lo m : ℕ) → (gate_at s < lo + m → gate_at s + 1 ≤ lo) → part lo m b ≡ part lo m d.bytes
    keeps lo m = kept d ready.rest.settled b (gate_at s) 1 left lo m

    still_head : Head b i n
    still_head = head_kept d.bytes b i n (keeps 0 BLOCK_LEN (λ h. omega (arith, h))) ready.rest.head

    old_here : Open b (slot_of k) k u
    old_here = search (rules, open_kept, keeps)

    still_spare : IsClosed b (spare_slot (slot_of k))
    still_spare = search (rules, closed_kept, keeps)

    gate_now : part (gate_at s) BLOCK_LEN b ≡ gate_block (slice_index b (gate_at s))
    gate_now = gate_changed d.bytes b (gate_at s) left.size (omega (arith, ready.rest.size))
        (keeps (gate_at s + 1) (BLOCK_LEN - 1) (λ h. omega (arith, h))) gate_closed.gate gate_closed.is

    new_here : slice_index b (gate_at s) ≡ OPEN_GATE → Open b s (k + 1) v
    new_here opens = search (rules, gate_now, keeps)

    new_next : IsClosed b (next_slot s)
    new_next = subst (λ (x : ℕ). IsClosed b x) after_is still_spare

    new_spare : Open b (spare_slot s) (k + 1 - 1) u
    new_spare = search (rules, before_is, old_here)

    gate_opened : slice_index b (gate_at s) ≡ OPEN_GATE → IsFileOf i n (k + 1) v b
    gate_opened opens = search (rules, still_head, new_here, new_next, new_spare)

    still_closed : slice_index b (gate_at s) ≢ OPEN_GATE → IsFileOf i n k u b
    still_closed closes = search (rules, still_head, old_here, next_is, gate_now, still_spare)

    -- so the file holds the old value or the new one
    pub gate_leaves : IsEither i n k u v b
    gate_leaves = search (rules, ⊎_elim, gate_opened, still_closed, cases_eq)

  -- after the second sync the device is at rest with the new value
  pub stored : (e : Device) → IsWritten (gate_at s) (OPEN_GATE ∷ []) d e → IsAtRest i n (k + 1) v true e
  stored e done =
      let left : MayLeave (opened (gate_at s) 1 d) e.bytes = record {
        size = done.elsewhere.size;
        elsewhere = λ p closed. done.elsewhere.elsewhere p (or_parts (in_range (gate_at s) 1 p) (d.is_open p) closed).0;
      } in
      let opens : slice_index e.bytes (gate_at s) ≡ OPEN_GATE = byte_stands (gate_at s) OPEN_GATE e.bytes done.stands in
      record {
        settled = done.settled;
        size = left.size ∙ ready.rest.size;
        head = still_head e.bytes left;
        here = new_here e.bytes left opens;
        next = new_next e.bytes left;
        spare = (u, new_spare e.bytes left);
      }
