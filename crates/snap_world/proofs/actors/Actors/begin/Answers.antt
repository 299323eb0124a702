-- the segment's number is the last one
use Rattle.snap_world.proofs.Events.{up_at, came, writer_goes, refuses}
use Rattle.snap_world.proofs.Moves.{within, the_writer, the_register, Gathers-none}
use Rattle.snap_world.specs.Machine.{State, WriterState, Begun, with_writer}
use Rattle.std.proofs.Common.{◌≡◌, ◌<◌, ◌≤◌, List, ℕ, length, refl, ap, subst, ◌∙◌, sym, arith}
use Rattle.snap_world.proofs.{Sizes.all_some, Looks.number_now, LookingOn.some_named, LookingOn.all_among}
use Rattle.snap_world.proofs.{PhaseMoves.writer_moved}
use Rattle.snap_world.specs.{Answers.scan_from, Answers.all_of, inside.NodeSteps.node_of, inside.Stands.ActorsStand}
use Rattle.snap_world.specs.{declared.writer.WriterActor.WriterActor}
use Rattle.snap_world.specs.declared.writer.WriterPhase.TheVariants as writer
use Rattle.snap_world.proofs.actors.Actors.begin.Goals as goal

pub returns-then-index-ge-LAST_NUMBER : goal.returns-then-index-ge-LAST_NUMBER
returns-then-index-ge-LAST_NUMBER c =
    let w = c.args.self.now in
    let i = c.args.segment in record {
      step = record {
        each = λ ds. refuses (node_of w ds) _ (λ x node e. (
            let low = within w x node.at.actors_stand i (c.if-not-writer_is.ensures.0 refl) in
            let r = the_register w x node.at.actors_stand i c.index.result.now low c.index.ensures in
            omega (arith, r.number, e.3)));
      };
    }

pub returns : goal.returns
returns c =
    let w = c.args.self.now in
    let i = c.args.segment in
    let is = c.if-not-writer_is.ensures.0 refl in
    let old = c.index_mut-writer.result.now in
    let small : c.index.result.now.number < 9223372036854775807 = c.if-index-ge-LAST_NUMBER.false in
    let short : length c.args.value.now.items ≤ 4080 = omega (arith, c.args.value.now.ok.0) in
    let value : c.args.value.now.items ≡ c.set.new.self = sym (c.set.ensures ∙ c.deref.ensures.value) in
    let new : WriterActor = record {
      phase = writer.Scanning;
      value = c.set.new.self;
      collector = record { scan = c.new-writer.result; memory = old.collector.memory };
    } in
    let number = λ (x : State) (stands : ActorsStand w x). (the_register w x stands i
    c.index.result.now (within w x stands i is) c.index.ensures).number in record {
      step = came w _ _ _ (λ e. cc) (λ _ _ _ _ _ _. (refl, tt)) refl (λ ds x up. (
          let stands = up.actors_stand in
          let a = the_writer w x stands i is old c.index_mut-writer.ensures.value in
          let state : WriterState = record (a.state) {
            pending = Begun c.args.value.now.items;
            scan = scan_from (length x.history);
          } in
          let all = all_of w.segments in
          let gathers = Gathers-none w.segments all x.history new.collector (some_named w.segments all stands.most
          (all_some w.segments stands.least) (all_among w.segments)) (all_among w.segments) c.new-writer.ensures.set
          c.new-writer.ensures.told c.new-writer.ensures.next a.size in (
            with_writer x i state,
            (a.state, a.there, a.phase, a.fenced, refl),
            writer_goes w ds x up i new a.state state (within w x stands i is) a.there refl (record {
              size = a.size;
              fenced = a.fenced;
              phase = (
                record {
                  born = stands.within;
                  pending = ap Begun value;
                  fits = subst (λ (v : List ℕ). length v ≤ 4080) value short;
                  room = omega (arith, small, number x stands);
                  own = number_now x.history i;
                  gathers = gathers.0;
                },
                gathers.1,
              );
            }) (λ d ed. up.drives_stand i d a.state writer.Idle ed a.there is),
          ))) (λ ds x stands. (refl, is, short, omega (arith, small, number x stands)))
          (λ ds x stands. ap (up_at ds) (writer_moved w i new));
    }
