-- The text that a server has printed, step by step.
use Rattle.std.proofs.Common.{◌≡◌, ℕ, List, Option, Some, Ok, Err, inl, inr, ap}
use Rattle.std.{specs.Io.KnownBytes.Appends, proofs.KnownBytes.Appends-trans, proofs.KnownBytes.Appends-kept}
use Rattle.snap_order.{specs.Streams.AppendsBeginning, proofs.Lines.beginning_behind}
use Rattle.snap_restart.specs.{Report.report_text, declared.report.Report.Report}
use Rattle.snap_server.specs.{Announced.Announced, declared.listen.Endpoint.Endpoint}
use Rattle.snap_server.specs.{declared.fault.RunFault.RunFault, declared.fault.ServerFault.ServerFault}
use Rattle.snap_serve.specs.declared.fault.HostFault.{HostFault}
use Rattle.snap_serve.specs.declared.fault.HostFault.TheVariants.{Address, NoMemory, Output}
use Rattle.snap_serve.specs.Serve.{EndsServing, HasFailed, IsFaulted, IsNamed, ListenFails, PrintFails, Site}
use Rattle.snap_serve.specs.Serve.{failure_of, listening_text, opening_text, served_line}
use Rattle.snap_server.specs.declared.fault.RunFault.TheVariants as run
use Rattle.snap_server.specs.declared.fault.ServerFault.TheVariants as faults

-- the report and the addresses were printed
pub record IsListening {L : Type 0} (site : Site L) (l : L) (r : Report) (o n : Option (List ℕ))
    : Type 0 where
  pub places : List Endpoint
  pub is_there : site.listens_at l places
  pub text : Appends o n (opening_text r places)

module _ {L : Type 0} (site : Site L) (connections : Option ℕ) (r : Report) (o n : Option (List ℕ)) where
  pub report_failed : (failure : HostFault) → PrintFails o n (report_text r) failure
      → EndsServing site connections r o n (Err failure)
  report_failed (Output error) fails = inl fails
  report_failed NoMemory fails = inl fails
  report_failed failure fails = absurd fails

  pub listen_failed : (failure : HostFault) → Appends o n (report_text r)
      → ListenFails site failure → EndsServing site connections r o n (Err failure)
  listen_failed (Address unbound) came fails = (fails, came)
  listen_failed NoMemory came (inl starved) = inr (inl (starved, came))
  listen_failed NoMemory came (inr fails) = inr (inr (fails.0, fails.1, fails.2, inl came))
  listen_failed failure came fails = absurd fails

  -- after the text that was printed when it began to listen
  module _ {m : Option (List ℕ)} {l : L} (k : ℕ) (is : IsListening site l r o m)
      (asked : connections ≡ Some k) (came : site.gave l k) where
    pub served_failed : (failure : HostFault) → PrintFails m n (served_line k) failure
        → EndsServing site connections r o n (Err failure)
    served_failed (Output error) fails = inr (
      l,
      is.places,
      is.is_there,
      inr (
        k,
        asked,
        came,
        beginning_behind o m n (opening_text r is.places) (served_line k) is.text fails,
      ),
    )
    served_failed NoMemory fails = inr (inr (
      l,
      is.places,
      is.is_there,
      inr (Appends-kept o m n (opening_text r is.places) is.text fails),
    ))
    served_failed failure fails = absurd fails

    pub served : Appends m n (served_line k) → EndsServing site connections r o n (Ok k)
    served said = record {
      listener = l;
      places = is.places;
      is_there = is.is_there;
      asked = asked;
      came = came;
      text = Appends-trans o m n (opening_text r is.places) (served_line k) is.text said;
    }

-- the listener's lines, after the report
module _ {L : Type 0} (site : Site L) (l : L) (line : List ℕ) (r : Report) (o m n : Option (List ℕ))
    (came : Appends o m (report_text r)) (named : IsNamed site l line) where
  opened : Appends m n line → Appends o n (opening_text r named.0)
  opened said = Appends-trans o m n (report_text r) (listening_text named.0) came (rw named.2 at said)

  pub listening : Appends m n line → IsListening site l r o n
  listening said = record { places = named.0; is_there = named.1; text = opened said }

-- The threads were not started, or ended early, for this reason. `contents` is what a writer holds.
module _ {W L : Type 0} (contents : W → Option (List ℕ)) (site : Site L) (connections : Option ℕ)
    (r : Report) (o : Option (List ℕ)) (old new : W) (l : L) (line : List ℕ)
    (came : Appends o (contents old) (report_text r)) (named : IsNamed site l line) where
  failed : (fault : ServerFault) → (run.Server fault ≡ run.Server faults.AcceptFailed → site.may_fail l)
      → IsFaulted r named.0 o (contents new) fault → HasFailed site r o (contents new) fault
  failed fault is_deaf text = record {
    listener = l;
    places = named.0;
    is_there = named.1;
    deaf = λ same. is_deaf (ap run.Server same);
    text = text;
  }

  pub ended_early : (why : RunFault) → Announced (λ x y. Appends (contents x) (contents y) line)
      (λ x y. AppendsBeginning (contents x) (contents y) line) old (Err why) new
      → (why ≡ run.Server faults.AcceptFailed → site.may_fail l)
      → EndsServing site connections r o (contents new) (Err (failure_of why))
  ended_early (run.Announcement error) has is_deaf = inr (
    l,
    named.0,
    named.1,
    inl (beginning_behind o (contents old) (contents new) (report_text r) (listening_text named.0)
        came (rw named.2 at has)),
  )
  ended_early (run.Server faults.NoMemory) has is_deaf = inr (inr (l, named.0, named.1, inl (rw has at came)))
  ended_early (run.Server faults.NoPoll) has is_deaf = failed faults.NoPoll is_deaf (rw has at came)
  ended_early (run.Server faults.NoThread) has is_deaf = failed faults.NoThread is_deaf (rw has at came)
  ended_early (run.Server fault) has is_deaf =
      failed fault is_deaf (opened site l line r o (contents old) (contents new) came named has)
