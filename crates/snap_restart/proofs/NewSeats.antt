-- New registers' seats match the segments that the registers were opened with.
use Rattle.std.proofs.Common.{◌≡◌, ℕ, ◌<◌, ◌≤◌, List, [], length, map, slice_get, Some, None, ap, sym, ◌∙◌, arith}
use Rattle.std.proofs.lemmas.List.{length-map}
use Rattle.snap_register.specs.Seat.{Known, own_of, number_in, value_in}
use Rattle.snap_register.specs.Parts.{IsNewSeat, IsOpening, AreWriters, AreReaders}
use Rattle.snap_register.specs.{Registers.RegistersId, declared.plan.Plan.Plan, History.starts}
use Rattle.snap_history.specs.History.{number_after, value_after}
use Rattle.snap_history.specs.{declared.limits.TheConstants.MAX_COUNT, Pairs.Pairs}
use Rattle.snap_segment.specs.Segment.{SegmentState}
use Rattle.snap_writer.specs.Writer.{WriterState, IsPaired, phase_of}
use Rattle.snap_restart.specs.{Opened.AreFresh, Opened.Starts, Opened.IsOpened, Opened.contents}
use Rattle.snap_restart.specs.declared.store.TheConstants.{LOOKS}
use Rattle.snap_restart.{specs.Closed.IsSeatAt, specs.Closed.AreBack, proofs.Removals.get_map, proofs.Pairs.partner_of}
use Rattle.snap_disk.specs.declared.disk.Disk as Disk

seat_at : {z : RegistersId} {p : Plan} {low high : ℕ} {a : Known} → IsNewSeat z p low high a → IsSeatAt z p low high a
seat_at n = grind arith

-- segments that were just opened aren't fenced
pub unfenced_are : {D : Type 0} (disk : Disk.Ghosts D) (n : ℕ) (devices : List D) (ss : List (SegmentState D))
    → Pairs (IsOpened disk n) devices ss → (i : ℕ) (s : SegmentState D) → slice_get ss i ≡ Some s → s.begun ≡ None
unfenced_are disk n devices ss opened i s at = (partner_of _ devices ss i s opened at).2.unfenced

module _ {D : Type 0} (z : RegistersId) (p : Plan) (ss : List (SegmentState D)) (ws : List Known)
    (o : IsOpening p LOOKS (map contents ss)) (new : AreWriters z p ws) (long : length ws ≡ length ss)
    (unfenced : (i : ℕ) (s : SegmentState D) → slice_get ss i ≡ Some s → s.begun ≡ None) where
  pub starts_are : Pairs (λ _. Starts) ss ws
  starts_are = record {
    size = sym long;
    each = λ i s a es ea.
        let n = new i a ea in
        let first = o.each i (contents s) (get_map contents ss i s es) in
        let number : number_in a a.seen (own_of a) ≡ number_after (starts p) [] i = cc in
        let value : value_in a a.seen (own_of a) ≡ value_after (starts p) [] i = cc in
        record { number_is = grind arith; value_is = grind arith; unfenced = unfenced i s es; phase_is = n.phase_is };
  }

  module _ (rs : List Known) (writers : List (WriterState D))
      (seats : map (λ (w : WriterState D). w.seat) writers ≡ ws) where
    seat_there : (i : ℕ) (w : WriterState D) → slice_get writers i ≡ Some w → slice_get ws i ≡ Some w.seat
    seat_there i w at = rw seats at (get_map (λ (w : WriterState D). w.seat) writers i w at)

    pub fresh_are : AreReaders z p rs → AreFresh writers rs
    fresh_are readers = grind (arith, seat_there)

    pub back_are : 0 < length ss → length ss ≤ MAX_COUNT → 0 < length rs → AreReaders z p rs → AreBack writers rs
    back_are some few some_scanner readers =
        let size : length writers ≡ length ss =
        sym (length-map writers (λ (w : WriterState D). w.seat)) ∙ ap length seats ∙ long in
        record {
          table = z;
          plan = p;
          all = size ∙ sym (o.segments_are ∙ length-map ss contents);
          some = omega arith;
          few = omega arith;
          some_scanner = some_scanner;
          writers_are = λ i w at. seat_at (new i w.seat (seat_there i w at));
          scanners_are = λ k b at. seat_at (readers k b at);
        }

    pub paired_are : map (λ (w : WriterState D). w.segment) writers ≡ ss → (i : ℕ)
        (w : WriterState D) → slice_get writers i ≡ Some w → IsPaired w
    paired_are segments i w at =
        let n = new i w.seat (seat_there i w at) in
        let s = starts_are.each i w.segment w.seat
        (rw segments at (get_map (λ (w : WriterState D). w.segment) writers i w at)) (seat_there i w at) in
        record {
          number_is = s.number_is;
          value_is = s.value_is;
          alone = omega arith;
          phase_is = s.phase_is ∙ sym (ap phase_of s.unfenced);
        }
