use Rattle.std.proofs.Common.{◌≡◌, length, Some, slice_get, slice_set, refl, arith}
use Rattle.std.proofs.lemmas.Option.{slice_get_read}
use Rattle.snap_history.{specs.Pairs.Pairs, proofs.Lists.get-set_same}
use Rattle.snap_register.specs.Seat.{Known, Grows}
use Rattle.snap_memory.proofs.Collects.{grows_more}
use Rattle.snap_restart.proofs.Meetings.{met_more, together_after, first_met, history_told}
use Rattle.snap_restart.{specs.Closed.HasMet, proofs.Pairs.partner_of, proofs.Pairs.pairs_more}
use Rattle.snap_restart.proofs.shutdown.hear_everybody.Goals as goal
use Rattle.snap_restart.proofs.shutdown.hear_everybody.Goals.{After-index_mut-scanner}

-- the first writer has met all scanners
heard : (g : _) (c : After-index_mut-scanner g) → Pairs (λ _. HasMet) c.args.writers.now.items
    (slice_set c.args.writers.now.items 0 c.hear_all.new.writer)
heard g c =
    let w0 = c.args.writers.now.items in
    first_met w0 _ _ (slice_get_read w0 (length w0) 0 _ refl c.requires.back.some c.index_mut.ensures.value)
    c.hear_all.ensures.writer

-- the first scanner: at first, and after that
scanner : (g : _) (c : After-index_mut-scanner g) → (b : Known)
    × (slice_get c.args.scanners.now.items 0 ≡ Some b) × Grows b c.index_mut-scanner.result.now
scanner g c =
    let s1 = c.hear_all.new.scanners.items in
    let some = c.requires.back.some_scanner in
    let size = c.hear_all.ensures.scanners.size in
    let now = c.index_mut-scanner in
    partner_of (λ _. Grows) _ s1 0 _ c.hear_all.ensures.scanners
    (slice_get_read s1 (length s1) 0 now.result.now refl (omega arith) now.ensures.value)

pub meet_all-requires : goal.meet_all-requires
meet_all-requires g c =
    let now = (goal.at.meet_all-requires g c).After-index_mut-scanner in
    let b = scanner g now in
    record { together = together_after _ _ _ b.0 _ c.requires.back b.1 (heard g now) b.2 }

pub meet_all-requires-2 : goal.meet_all-requires-2
meet_all-requires-2 g c =
    let now = (goal.at.meet_all-requires-2 g c).After-index_mut-scanner in
    let b = scanner g now in
    record {
      together = together_after _ _ _ b.0 _ c.requires.back b.1
          (pairs_more HasMet met_more _ _ _ (heard g now) c.meet_all.ensures.writers)
          (grows_more b.0 _ _ b.2 c.meet_all.ensures.scanner);
    }

pub returns-clause-met : goal.returns-clause-met
returns-clause-met g c =
    let w0 = c.args.writers.now.items in
    pairs_more HasMet met_more w0 _ c.meet_all-2.new.writers.items
    (pairs_more HasMet met_more w0 _ c.meet_all.new.writers.items
    (heard g (goal.at.returns-clause-met g c).After-index_mut-scanner) c.meet_all.ensures.writers)
    c.meet_all-2.ensures.writers

pub returns-clause-history : goal.returns-clause-history
returns-clause-history g c =
    let w0 = c.args.writers.now.items in
    history_told w0 _ _ _ _ _ _ _ c.requires.back (heard g (goal.at.returns-clause-history g c).After-index_mut-scanner)
    c.meet_all.ensures.writers c.meet_all.ensures.told c.meet_all-2.ensures.told
    (get-set_same w0 0 _ c.requires.back.some) c.hear_all.ensures.heard
