use Rattle.std.proofs.Common.{◌≢◌, ◌^◌, ◌<◌, length, Some, refl, ap, ◌∙◌, arith}
use Rattle.std.proofs.{lemmas.Bool.iff_false}
use Rattle.snap_world.proofs.{LookingOn.asks_none, LookingOn.some_named, LookingOn.asks, Events.scanner_goes}
use Rattle.snap_world.proofs.{Moves.the_scanner, Moves.Gathers-none, PhaseMoves.scanner_there}
use Rattle.snap_world.proofs.actors.Actors.ask.Goals.{then-is_empty-via-then-is_empty}
use Rattle.snap_world.proofs.actors.Actors.ask.Goals.{then-is_empty-via-else-is_empty+then-not-is_among}
use Rattle.snap_world.specs.{Answers.scan_from, Answers.set_of, Machine.Opened}
use Rattle.snap_world.specs.{declared.scanner.ScannerActor.ScannerActor}
use Rattle.snap_world.specs.declared.scanner.ScannerPhase.TheVariants as scanner
use Rattle.snap_world.proofs.actors.Actors.ask.Goals as goal

pub returns-then-is_empty : goal.returns-then-is_empty
returns-then-is_empty c = record {
  step = asks_none c.args.self.now c.args.at c.args.asked (elim c.then-is_empty.branch [
    | then-is_empty-via-then-is_empty b ↦ (λ some among.
        omega (arith, c.is_empty.ensures.none.0 b.if-is_empty.true, c.set-set.ensures))
    | then-is_empty-via-else-is_empty+then-not-is_among b ↦ (λ some among.
        iff_false b.is_among.ensures.below b.if-not-is_among.true (rw c.set-set.ensures among))
  ]);
}

pub index_mut-scanner-requires : goal.index_mut-scanner-requires
index_mut-scanner-requires c =
    let there = scanner_there c.args.self.now c.args.at (c.if-not-scanner_is.ensures.0 refl) in
    omega (arith, there, c.args.self.now.scanners.ok.0)

pub returns : goal.returns
returns c =
    let w = c.args.self.now in
    let i = c.args.at in
    let asked = c.args.asked in
    let set = set_of w.segments asked in
    let some_bits : c.set-set.result.bits ≢ 0 = iff_false c.is_empty.ensures.none c.if-is_empty.false in
    let some : 0 < set = omega (arith, c.set-set.ensures) in
    let among : set < 2 ^ w.segments = rw c.set-set.ensures at (c.if-not-is_among.ensures.below.0 refl) in
    let is = c.if-not-scanner_is.ensures.0 refl in
    let old = c.index_mut-scanner.result.now in
    let new : ScannerActor = record {
      phase = scanner.Scanning;
      asked = asked;
      collector = record { scan = c.of-scanner.result; memory = old.collector.memory };
    } in record {
      step = asks w i new asked is some among refl (λ ds x up. (
          let stands = up.actors_stand in
          let a = the_scanner w x stands i is old c.index_mut-scanner.ensures.value in
          let gathers = Gathers-none w.segments set x.history new.collector
          (some_named w.segments set stands.most some among) among
          (c.of-scanner.ensures.set ∙ c.set-set.ensures) c.of-scanner.ensures.told c.of-scanner.ensures.next a.size in (
            a.there ∙ ap (λ z. Some z) a.phase,
            scanner_goes w ds x up i new (Opened asked (scan_from (length x.history))) (scanner_there w i is) (record {
              size = a.size;
              phase = (scan_from (length x.history), refl, stands.within, gathers.0, gathers.1);
            }),
          )));
    }
