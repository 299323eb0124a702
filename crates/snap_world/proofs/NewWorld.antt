-- Idle actors: those of a new world, and those after a restart.
-- idle actors, whose registers have what the history says, represent it: nothing was shown since now
use Rattle.snap_world.specs.Machine.{State, WriterState, ScannerState, Closed, resting}
use Rattle.snap_world.specs.inside.Fresh.{Each, IsFreshRegister, IsFreshWriter, IsFreshScanner}
use Rattle.std.proofs.Common.{rules, ◌≡◌, ℕ, ◌<◌, ◌≤◌, length, Some, None, slice_get, ap, sym, ◌∙◌, arith}
use Rattle.snap_history.proofs.{Lists.get-replicate}
use Rattle.snap_world.specs.{Start.start_state, Start.start_phases, declared.scanner.ScannerActor.ScannerActor}
use Rattle.snap_world.specs.{declared.register.Register.Register, declared.actors.Actors.Actors}
use Rattle.snap_world.specs.{declared.writer.WriterActor.WriterActor, inside.NodeStands.IsSized}
use Rattle.snap_world.specs.{inside.NodeStands.ActorsRest}
use Rattle.snap_world.specs.{inside.Gathers.RegisterStands, inside.Steps.phases_of_actors, inside.Stands.ActorsStand}
use Rattle.snap_world.proofs.{Elements.all_same, Looks.number_now}
use Rattle.std.proofs.{lemmas.List.length-replicate}
use Rattle.snap_world.specs.declared.writer.WriterPhase.TheVariants as writer
use Rattle.snap_world.specs.declared.scanner.ScannerPhase.TheVariants as scanner

pub idle_stand : (w : Actors) (x : State) → ActorsRest w x → ((i : ℕ) (r : Register) → slice_get w.registers.items i
    ≡ Some r → RegisterStands w.segments x.history i r) → ((i : ℕ) (s : WriterState) → slice_get x.writers i ≡ Some s
    → resting ≡ s) → ((i : ℕ) (s : ScannerState) → slice_get x.scanners i ≡ Some s → Closed ≡ s) → ActorsStand w x
idle_stand w x rest registers writers scanners =
    let is : IsSized w x = rest.sized in
    let h = x.history in record {
      least = is.least;
      most = is.most;
      since = length h;
      within = omega arith;
      registers = record {
        size = is.registers_n;
        each = registers;
        views = record {
          size = is.registers_n ∙ sym is.writers_n ∙ is.writers;
          each = λ i r s er es. (
              let none : s.view ≡ None = ap (λ (z : WriterState). z.view) (sym (writers i s es)) in record {
                kept = λ above. absurd (omega (arith, (registers i r er).number, number_now h i));
                is_view = λ p e. cc;
              });
        };
      };
      writers_n = is.writers_n;
      writers = record {
        size = is.writers;
        each = λ i a s ea es. search (rules, is.writers_memory i a ea, rest.writers i a ea, writers i s es);
      };
      scanners = record {
        size = is.scanners;
        each = λ i a s ea es. search (rules, is.scanners_memory i a ea, rest.scanners i a ea, scanners i s es);
      };
    }

pub starts : (w : Actors) (scanners : ℕ) → 0 < w.segments → w.segments ≤ 16 → length w.registers.items ≡ w.segments
    → length w.writers.items ≡ w.segments → length w.scanners.items ≡ scanners
    → Each (IsFreshRegister w.segments) w.registers.items → Each (IsFreshWriter w.segments) w.writers.items
    → Each (IsFreshScanner w.segments) w.scanners.items → ActorsStand w (start_state w.segments scanners)
starts w count least most nr nw ns regs writers scanners = search (rules, idle_stand, length-replicate, get-replicate)

-- if all actors are idle
pub phases_idle : (w : Actors) (segments count : ℕ) → length w.writers.items ≡ segments
    → length w.scanners.items ≡ count → Each (λ (a : WriterActor). a.phase ≡ writer.Idle) w.writers.items
    → Each (λ (c : ScannerActor). c.phase ≡ scanner.Idle) w.scanners.items
    → phases_of_actors w ≡ start_phases segments count
phases_idle w segments count nw ns writers scanners = search (rules, all_same)
