-- Replies are in what a crash leaves, and in what any number of crashes leave.
use Rattle.std.proofs.Common.{◌≡◌, ⊎_elim, ℕ, ◌<◌, inl, inr, List, [], ◌∷◌, ◌++◌, length, Option, refl, sym, subst, ◌∙◌}
use Rattle.std.proofs.Common.{arith, append_assoc}
use Rattle.snap_register.specs.{Registers.Moment, declared.plan.Plan.Plan, History.starts, History.updates}
use Rattle.snap_register.specs.{Rule.segments, Rule.Kept, Seat.Known}
use Rattle.snap_history.specs.History.{Update, Start, IsBeginning}
use Rattle.snap_history.proofs.{Beginnings.beginning-self, Beginnings.beginning-trans, Moments.value-push}
use Rattle.snap_frame.specs.declared.{request.Request.Request, reply.Reply.Reply}
use Rattle.snap_writer.specs.{Writer.WriterState, Life.Place}
use Rattle.snap_restart.specs.Restarts.{Restarts, First, Crashed, Interrupted, Spared, Put, PutCutOff, Remade, update}
use Rattle.snap_restart.proofs.Starts.{all_devices, history_on, last}
use Rattle.snap_restart.{proofs.LifeCrash.seen_saw, proofs.LifeStarts.StartsAfter, specs.Crash.AreOpened}
use Rattle.snap_restart.{specs.Crash.GoesOn, proofs.Commands.stored, proofs.Commands.cut_off, proofs.Crash.starts_after}
use Rattle.snap_laws.specs.{Told.Stands, Told.IsTold, Ever.WasTold, Ever.WasEverTold, Ever.EverLaw}
use Rattle.snap_laws.specs.Laws.{SessionUpTo, SessionTold, WasAnswered, AllStand, WasSeenIn}
use Rattle.snap_laws.proofs.Stands.{stands_on, stands_earlier, stands_without, beside_map, beside_at}
use Rattle.snap_laws.proofs.{ClientAnswers.answered_stands, Runs.session_told}
use Rattle.snap_disk.specs.declared.disk.Disk as Disk

-- what a seat had seen is a beginning of the history at the moment
pub seen_then : (plan : Plan) (s : Moment) (kept : Kept plan s)
    (seen : List Update) → WasSeenIn s.views seen → IsBeginning seen (updates kept.history)
seen_then plan s kept seen was = beginning-trans seen was.0 (updates kept.history) was.2
    (seen_saw plan s kept was.0 was.1)

module _ {D : Type 0} (disk : Disk.Ghosts D) (devices : List D) (writers : List (WriterState D))
    (opened : AreOpened disk devices writers) (start : Start) (before : List Update) (earlier : List (Place D))
    (on : GoesOn disk opened.plan start before earlier writers) (s : Moment) (kept : Kept opened.plan s) where
  abbrev n : ℕ
  n = length writers

  abbrev base : List Update
  base = before ++ on.more

  abbrev now : List Update
  now = updates kept.history

  pub after : StartsAfter n start base (starts opened.plan)
  after = starts_after writers opened.plan start base opened.starts_are on.starts_are

  -- a service of this opening
  module _ (b : Known) (same : b.plan ≡ opened.plan) (was : WasSeenIn s.views b.seen) where
    -- what is in the history of this opening is in the whole history, after the earlier one
    stood : (q : Request) (r : Reply) → Stands (segments b.plan) (starts b.plan) now q r
        → Stands n start (base ++ now) q r
    stood q r is = stands_earlier n start base (starts opened.plan) after now q r (rw opened.all (rw same at is))

    pub session_stands : (t : SessionUpTo b) → SessionTold t n start (base ++ now)
    session_stands t = beside_map (λ x y. IsTold (segments b.plan) (starts b.plan) now x y)
        (λ x y. IsTold n start (base ++ now) x y)
        (λ x y told q r number asks says. stood q r (told q r number asks says)) _ _
        (session_told b t now (seen_then opened.plan s kept b.seen was))

    pub client_stands : {R W : Type 0} (remaining : R → Option (List ℕ))
        (contents : W → Option (List ℕ)) (qs : List Request) (rs : List Reply)
        → WasAnswered remaining contents b qs rs → AllStand n start (base ++ now) qs rs
    client_stands remaining contents qs rs answered = beside_map
        (λ q r. Stands (segments b.plan) (starts b.plan) now q r) (λ q r. Stands n start (base ++ now) q r) stood qs rs
        (answered_stands remaining contents b qs rs now answered (seen_then opened.plan s kept b.seen was))

  pub before_stands : (q : Request) (r : Reply) → Stands n start before q r → Stands n start (base ++ now) q r
  before_stands q r stands = grind (arith, stands_on, append_assoc)

  pub told_stands : {R W : Type 0} (remaining : R → Option (List ℕ)) (contents : W → Option (List ℕ)) (q : Request)
      (r : Reply) → WasTold remaining contents opened.plan s.views q r → Stands n start (base ++ now) q r
  told_stands remaining contents q r (b, same, was, inl replied) =
      beside_at (λ x y. IsTold n start (base ++ now) x y) _ _ _ _ _ (session_stands b same was replied.served)
      replied.payload_is replied.reply_is q r replied.number replied.asks replied.says
  told_stands remaining contents q r (b, same, was, inr heard) =
      beside_at (λ x y. Stands n start (base ++ now) x y) _ _ _ q r
      (client_stands b same was remaining contents _ _ heard.was_answered) heard.asked_is heard.answer_is

module _ {D R W : Type 0} (disk : Disk.Ghosts D) (remaining : R → Option (List ℕ))
    (contents : W → Option (List ℕ)) where
  stands_ever : (n : ℕ) (start : Start) (moments : List (List Update)) (devices : List D)
      (past : Restarts disk n start moments devices) (q : Request) (r : Reply)
      → WasEverTold disk remaining contents n start moments devices past q r
      → Stands n start (last disk n start moments devices past).history q r
  unfolding last
  stands_ever n start [] _ (First _ devices kept) q r told = absurd told
  stands_ever n start (_ ∷ _) _
      (Crashed _ moments devices nexts writers crashed s past opened hon kept count each follow) q r told =
      let l = last disk n start moments devices past in
      let on = history_on disk n start moments devices l writers opened hon in
      let h = (l.history ++ on.more) ++ updates kept.history in
      let all : length writers ≡ n = opened.one_each ∙ all_devices disk n start moments devices l in
      subst (λ (k : ℕ). Stands k start h q r) all (⊎_elim
      (λ t. told_stands disk devices writers opened start l.history l.crashed on s kept remaining contents q r t)
      (λ t. before_stands disk devices writers opened start l.history l.crashed on s kept q r
      (rw all (stands_ever n start moments devices past q r t))) told)
  stands_ever n start _ _ (Interrupted _ moments devices news nexts past stay follow) q r told =
      stands_ever n start moments devices past q r told
  stands_ever n start _ _ (Spared _ moments devices nexts past same) q r told =
      stands_ever n start moments devices past q r told
  stands_ever n start (_ ∷ _) _ (Put _ moments devices nexts i k u v past held works) q r told =
      let l = last disk n start moments devices past in
      let is = stored disk n start l.history l.crashed devices nexts l.kept i k u v held works in
      let before = l.history ++ is.more in
      let h = before ++ update i v ∷ [] in
      let low : i < n = omega (arith, works.there, all_devices disk n start moments devices l) in
      let value = value-push start before (update i v) in
      ⊎_elim
      (λ t. rw (t.0, t.1) (low, refl, (h, beginning-self h, sym is.number_is, sym value)))
      (λ t. stands_on n start l.history h q r (_, append_assoc l.history is.more (update i v ∷ []))
      (stands_ever n start moments devices past q r t)) told
  stands_ever n start (_ ∷ _) _ (PutCutOff _ moments devices nexts i k u v past held works) q r told =
      let l = last disk n start moments devices past in
      let is = cut_off disk n start l.history l.crashed devices nexts l.kept i k u v held works in
      stands_on n start l.history (l.history ++ is.more) q r (is.more, refl)
      (stands_ever n start moments devices past q r told)
  stands_ever n next rest _ (Remade start _ moments _ devices nexts i k v past works from rest_is) q r told =
      rw from (stands_without n start i k v (last disk n start moments devices past).history q r told.0
      (stands_ever n start moments devices past q r told.1))

  pub ever : EverLaw disk remaining contents
  ever n start moments devices past = (last disk n start moments devices past, stands_ever n start moments devices past)
