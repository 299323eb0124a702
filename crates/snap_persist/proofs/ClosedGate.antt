-- A store before it opens the gate: the spare gate is being closed, and the body is written while
-- the gate of its slot is closed.
use Rattle.std.proofs.Common.{rules, Bool, true, false, ◌≡◌, ◌≢◌, inl, inr, ⊎_elim, ℕ, ◌+◌, ◌-◌, ◌<◌, ◌≤◌, List, []}
use Rattle.snap_slot.specs.Layout.{slot_of, next_slot, spare_slot, gate_block, body_block, gate_at, body_at, Open}
use Rattle.snap_persist.proofs.Kept.{apart, kept, kept_twice, inner_opened_leaves, head_kept, open_kept, closed_kept}
use Rattle.std.proofs.Common.{◌∷◌, length, slice_index, ◌∙◌, ap, subst, arith}
use Rattle.std.proofs.lemmas.Bool.{cases_eq}
use Rattle.snap_slot.specs.declared.layout.TheConstants.{BLOCK_LEN, OPEN_GATE, CLOSED_GATE}
use Rattle.snap_slot.{specs.Layout.IsClosed, specs.Layout.Head, specs.Layout.IsFileOf, proofs.Blocks.length-body_block}
use Rattle.snap_slot.specs.States.{IsAtRest}
use Rattle.snap_persist.specs.Device.{IsBodyStored, IsJustWritten}
use Rattle.snap_persist.proofs.Kept.{gate_changed, byte_stands}
use Rattle.snap_disk.specs.Laws.{out_apart, opened_leaves, touched_leaves, touched_twice_leaves}
use Rattle.snap_disk.specs.Device.{Device, in_range, part, opened, MayLeave, IsSynced}
use Rattle.snap_history.specs.Limits.{IsShort}

module _ (i n k : ℕ) (u : List ℕ) where
  abbrev s : ℕ
  s = slot_of (k + 1)

  abbrev t : ℕ
  t = next_slot (slot_of (k + 1))

  next_is : next_slot (slot_of k) ≡ s
  next_is = omega arith

  spare_is : spare_slot (slot_of k) ≡ t
  spare_is = omega arith

  pub next_closed : (spare_open : Bool) (d : Device) → IsAtRest i n k u spare_open d → IsClosed d.bytes s
  next_closed spare_open d ready = subst (λ (x : ℕ). IsClosed d.bytes x) next_is ready.next

  -- a crash may leave any bytes in the spare gate and in the body
  module _ (spare_open : Bool) (d : Device) (ready : IsAtRest i n k u spare_open d) (b : List ℕ)
      (left : MayLeave (opened (body_at s) BLOCK_LEN (opened (gate_at t) 1 d)) b) where
    keeps : (lo m : ℕ) → (gate_at t < lo + m → gate_at t + 1 ≤ lo)
        → (body_at s < lo + m → body_at s + BLOCK_LEN ≤ lo) → part lo m b ≡ part lo m d.bytes
    keeps lo m = kept_twice d ready.settled b (gate_at t) 1 (body_at s) BLOCK_LEN left lo m

    pub still_head : Head b i n
    still_head = head_kept d.bytes b i n (keeps 0 BLOCK_LEN (λ h. omega (arith, h)) (λ h. omega (arith, h))) ready.head

    pub still_here : Open b (slot_of k) k u
    still_here = search (rules, open_kept, keeps)

    pub still_next : IsClosed b (next_slot (slot_of k))
    still_next = search (rules, closed_kept, keeps)

  -- If the spare gate is open at the start:
  module _ (d : Device) (ready : IsAtRest i n k u true d) (b : List ℕ)
      (left : MayLeave (opened (body_at s) BLOCK_LEN (opened (gate_at t) 1 d)) b) where
    spare_gate : part (gate_at t) BLOCK_LEN d.bytes ≡ gate_block OPEN_GATE
    spare_gate = search (rules, spare_is)

    pub changed : part (gate_at t) BLOCK_LEN b ≡ gate_block (slice_index b (gate_at t))
    changed = gate_changed d.bytes b (gate_at t) left.size (omega (arith, ready.size)) (keeps true d ready b left
        (gate_at t + 1) (BLOCK_LEN - 1) (λ h. omega (arith, h)) (λ h. omega (arith, h))) OPEN_GATE spare_gate

    spare_body : part (body_at t) BLOCK_LEN b ≡ body_block (k - 1) ready.spare.0
    spare_body = keeps true d ready b left (body_at t) BLOCK_LEN (λ h. omega (arith, h)) (λ h. omega (arith, h)) ∙ subst
        (λ (x : ℕ). part (body_at x) BLOCK_LEN d.bytes ≡ body_block (k - 1) ready.spare.0) spare_is ready.spare.1.holds

    still_open : slice_index b (gate_at t) ≡ OPEN_GATE → Open b (spare_slot (slot_of k)) (k - 1) ready.spare.0
    still_open opens = search (rules, spare_is, changed, spare_body)

    now_closed : slice_index b (gate_at t) ≢ OPEN_GATE → IsClosed b (spare_slot (slot_of k))
    now_closed closes = search (rules, spare_is, changed)

    -- whatever bytes the spare gate and the body get, the file holds its old value
    pub waiting_leaves : IsFileOf i n k u b
    waiting_leaves = record {
      size = left.size ∙ ready.size;
      head = still_head true d ready b left;
      holds = record {
        here = still_here true d ready b left;
        next = still_next true d ready b left;
        spare = ⊎_elim (λ opens. inr (ready.spare.0, still_open opens)) (λ closes.
            inl (now_closed closes)) (cases_eq (slice_index b (gate_at t)) OPEN_GATE);
      };
    }

  -- before the body is written
  pub closing_leaves : (d : Device) → IsAtRest i n k u true d → (b : List ℕ)
      → MayLeave (opened (gate_at t) 1 d) b → IsFileOf i n k u b
  closing_leaves d ready b left =
      waiting_leaves d ready b (opened_leaves (body_at s) BLOCK_LEN (opened (gate_at t) 1 d) b left)

  -- If the spare gate is closed at the start:
  module _ (d : Device) (ready : IsAtRest i n k u false d) (b : List ℕ)
      (left : MayLeave (opened (body_at s) BLOCK_LEN d) b) where
    wider : MayLeave (opened (body_at s) BLOCK_LEN (opened (gate_at t) 1 d)) b
    wider = inner_opened_leaves (body_at s) BLOCK_LEN (gate_at t) 1 d b left

    pub still_spare : IsClosed b (spare_slot (slot_of k))
    still_spare = closed_kept d.bytes b (spare_slot (slot_of k)) (kept d ready.settled b (body_at s) BLOCK_LEN left
        (gate_at (spare_slot (slot_of k))) BLOCK_LEN (λ h. omega (arith, h))) ready.spare

    pub body_leaves : IsFileOf i n k u b
    body_leaves = record {
      size = left.size ∙ ready.size;
      head = still_head false d ready b wider;
      holds = record {
        here = still_here false d ready b wider;
        next = still_next false d ready b wider;
        spare = inl still_spare;
      };
    }

  -- After the first sync the closed gate and the body are durable:
  module _ (v : List ℕ) (fits : IsShort v) where
    abbrev block : List ℕ
    block = body_block (k + 1) v

    pub long : length block ≡ BLOCK_LEN
    long = length-body_block (k + 1) v fits

    module _ (mid new e : Device) (written : IsJustWritten (body_at s) block mid new)
        (synced : IsSynced new e) where
      there : MayLeave new e.bytes
      there = search rules

      stands : part (body_at s) BLOCK_LEN e.bytes ≡ block
      stands = search (rules, long)

      pub written_behind : IsAtRest i n k u false mid → IsBodyStored i n k u v e
      written_behind ready =
          let left : MayLeave (opened (body_at s) BLOCK_LEN mid) e.bytes = subst (λ (m : ℕ). MayLeave
          (opened (body_at s) m mid) e.bytes) long (touched_leaves written.touched e.bytes there) in
          let file = wider mid ready e.bytes left in
          record {
            rest = record {
              settled = synced.settled;
              size = left.size ∙ ready.size;
              head = still_head false mid ready e.bytes file;
              here = still_here false mid ready e.bytes file;
              next = still_next false mid ready e.bytes file;
              spare = still_spare mid ready e.bytes left;
            };
            body = stands;
          }

      pub closed_and_written : (d : Device) → IsAtRest i n k u true d
          → IsJustWritten (gate_at t) (CLOSED_GATE ∷ []) d mid → IsBodyStored i n k u v e
      closed_and_written d ready closing =
          let left : MayLeave (opened (body_at s) BLOCK_LEN (opened (gate_at t) 1 d)) e.bytes =
          subst (λ (m : ℕ). MayLeave (opened (body_at s) m (opened (gate_at t) 1 d)) e.bytes) long
          (touched_twice_leaves closing.touched written.touched e.bytes there) in
          let out : in_range (body_at s) (length block) (gate_at t) ≡ false =
          out_apart (gate_at t) 1 (body_at s) (length block) (apart (gate_at t) 1
          (body_at s) (length block) (λ h. omega (arith, h, long))) (gate_at t) (omega arith) (omega arith) in
          let zero_gate : slice_index e.bytes (gate_at t) ≡ CLOSED_GATE = ap (λ (l : List ℕ). slice_index l
          (gate_at t)) synced.same ∙ written.touched.bytes_elsewhere.elsewhere (gate_at t) out
          ∙ byte_stands (gate_at t) CLOSED_GATE mid.bytes closing.stands in
          record {
            rest = record {
              settled = synced.settled;
              size = left.size ∙ ready.size;
              head = still_head true d ready e.bytes left;
              here = still_here true d ready e.bytes left;
              next = still_next true d ready e.bytes left;
              spare = now_closed d ready e.bytes left (λ is. absurd (omega (arith, is, zero_gate)));
            };
            body = stands;
          }
