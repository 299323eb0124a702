-- One more step at the end of a run.
use Rattle.std.proofs.Common.{rules, ◌≡◌, ℕ, ◌+◌, ◌<◌, List, [], ◌∷◌, ◌++◌, length, take, get_or, Result, Ok, Err, IfOk}
use Rattle.std.proofs.Common.{refl, ap, sym, ◌∙◌, subst}
use Rattle.snap_world.specs.Machine.{State, Step, chosen}
use Rattle.snap_world.specs.Surface.{StandsFor, IsRun, segments_of, configuration}
use Rattle.std.specs.{declared.alloc.AllocError.AllocError}
use Rattle.std.proofs.{lemmas.List.take_more}
use Rattle.snap_world.proofs.{Fills.no_bytes_left_out}
use Rattle.snap_world.specs.{inside.NodeSteps.IsNodeStep, declared.world.World.World}
use Rattle.snap_world.specs.{declared.event.Event.TheVariants.Show, declared.event.Event.TheVariants.Serve}
use Rattle.snap_world.specs.{declared.event.Event.Event, declared.event.Reply.Reply}
use Rattle.snap_history.specs.{History.IsBeginning}
use Rattle.snap_history.proofs.{Beginnings.beginning-self, Beginnings.beginning-trans}
use Rattle.snap_world.specs.{declared.event.Reply.TheVariants.{Shown as Shown_reply, Memory}, Runs.{Configuration, Run}}

stays : (x y : State) → y.history ≡ x.history → IsBeginning x.history y.history
stays x y e = subst (IsBeginning x.history) (sym e) (beginning-self x.history)

-- a step only appends to the history
pub Step-grows : (n : ℕ) (x : State) (event : Event) (reply : Reply) (y : State)
    → Step n x event reply y → IsBeginning x.history y.history
Step-grows n x (Show w) Shown_reply y s = (record { segment = w; value = s.1 } ∷ [], ap (λ v. v.history) s.4)
Step-grows n x Serve (Memory m) y s = (chosen 0 x.writers s.0, ap (λ v. v.history) s.2)
Step-grows n x event reply y s = search (rules, stays)

-- two runs, one after the other
pub Run-append : (n : ℕ) (a : Configuration) (events : List Event) (replies : List Reply) (b : Configuration)
    (more : List Event) (others : List Reply) (c : Configuration) → Run n a events replies b → Run n b more others c
    → Run n a (events ++ more) (replies ++ others) c
Run-append n a [] [] b more others c f g = subst (λ v. Run n v more others c) f g
Run-append n a (event ∷ events) (reply ∷ replies) b more others c f g =
    (f.0, f.1, Run-append n f.0 events replies b more others c f.2 g)
Run-append n a events replies b more others c f g = absurd f

pub IsRun-append : (old mid new : World) (events : List Event) (replies : List Reply) (more : List Event)
    (others : List Reply) → IsRun old events replies mid → IsRun mid more others new
    → IsRun old (events ++ more) (replies ++ others) new
IsRun-append old mid new events replies more others a b = record {
  segments = b.segments ∙ a.segments;
  run = λ x stands. (
      let f = a.run x stands in
      let g = b.run f.0 f.2 in
      let rest : Run (segments_of old) (configuration mid f.0) more others (configuration new g.0) =
      subst (λ n. Run n (configuration mid f.0) more others (configuration new g.0)) a.segments g.1 in (
        g.0,
        Run-append (segments_of old) (configuration old x) events replies
            (configuration mid f.0) more others (configuration new g.0) f.1 rest,
        g.2,
        beginning-trans x.history f.0.history g.0.history f.3 g.3,
      ));
}

-- a step is a run of one event
pub IsRun-one : (old new : World) (event : Event) (reply : Reply)
    → IsNodeStep old.node event reply new.node → IsRun old (event ∷ []) (reply ∷ []) new
IsRun-one old new event reply s = record {
  segments = s.segments;
  run = λ x stands. (
      let f = s.step x stands in (
        f.0,
        (
          configuration new f.0,
          record {
            step = f.1;
            comes = s.comes x stands;
            phases = s.phases x stands;
            devices = f.2;
            gates = s.gates x stands;
          },
          refl,
        ),
        f.3,
        Step-grows (segments_of old) x event reply f.0 f.1,
      ));
}

pub IsRun-step : (old new : World) (event : Event) (r : Result Reply AllocError) → IfOk r
    (λ reply. IsNodeStep old.node event reply new.node) → IfOk r (λ reply. IsRun old (event ∷ []) (reply ∷ []) new)
IsRun-step old new event (Ok reply) s = IsRun-one old new event reply s
IsRun-step old new event (Err error) s = tt

-- the history only grew
pub IsRun-grows : (old new : World) (events : List Event) (replies : List Reply) → IsRun old events replies new
    → (x : State) → StandsFor old x → (y : State) × StandsFor new y × IsBeginning x.history y.history
IsRun-grows old new events replies a x stands = let f = a.run x stands in (f.0, f.2, f.3)

-- a world that is unchanged
pub IsRun-same : (old mid new : World) (events : List Event) (replies : List Reply) → new ≡ mid
    → IsRun old events replies mid → IsRun old events replies new
IsRun-same old mid new events replies e a = subst (IsRun old events replies) (sym e) a

pub take-event : (events : List Event) (i : ℕ) (event : Event) → i < length events
    → event ≡ get_or events i event → take i events ++ event ∷ [] ≡ take (i + 1) events
take-event events i event l e = ap (λ v. take i events ++ v ∷ []) e ∙ sym (take_more events i event l)

-- what `World::step` and `World::run` rest on
pub ruleset run_facts = (no_bytes_left_out, IsRun-step, IsRun-grows)
