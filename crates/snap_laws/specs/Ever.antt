-- The replies over any number of crashes and starts.
use Rattle.std.specs.Prelude.{◌≡◌, ◌≢◌, ◌⊎◌, ℕ, ◌+◌, List, [], ◌∷◌, ◌++◌, Option, Some, slice_get}
use Rattle.snap_history.specs.History.{Update, Start}
use Rattle.snap_register.specs.{declared.plan.Plan.Plan, declared.plan.SeatView.SeatView, Seat.Known}
use Rattle.snap_frame.specs.Messages.{Asks, Says}
use Rattle.snap_frame.specs.declared.{request.Request.Request, reply.Reply.Reply, reply.Reply.TheVariants.Stored}
use Rattle.snap_restart.specs.Restarts.{Restarts, First, Crashed, Interrupted, Spared, Put, PutCutOff, Remade, Last}
use Rattle.snap_laws.specs.Told.{Stands, HasNumber}
use Rattle.snap_laws.specs.Laws.{SessionUpTo, WasAnswered, WasSeenIn}
use Rattle.snap_frame.specs.declared.request.Request.TheVariants as request
use Rattle.snap_disk.specs.declared.disk.Disk as Disk

-- Some session of the service, which has reached the state b since, gave out or owed bytes that say
-- this reply to this request.
pub record WasReplied (b : Known) (q : Request) (r : Reply) : Type 0 where
  pub served : SessionUpTo b
  pub place : ℕ
  pub payload : List ℕ
  pub payload_is : slice_get served.turns.goes.payloads place ≡ Some payload
  pub reply : List ℕ
  pub reply_is : slice_get (served.turns.goes.replies ++ served.turns.goes.unsaid) place ≡ Some reply
  pub number : HasNumber q
  pub asks : Asks payload q
  pub says : Says reply r

-- Some client over an honest connection to such a session returned this reply to its caller.
pub record WasHeard {R W : Type 0} (remaining : R → Option (List ℕ))
    (contents : W → Option (List ℕ)) (b : Known) (q : Request) (r : Reply) : Type 0 where
  pub asked : List Request
  pub answers : List Reply
  pub was_answered : WasAnswered remaining contents b asked answers
  pub place : ℕ
  pub asked_is : slice_get asked place ≡ Some q
  pub answer_is : slice_get answers place ≡ Some r

-- by this moment of an opening's registers a session had given this reply to its peer, or a client to its caller
abbrev pub WasTold : {R W : Type 0} → (R → Option (List ℕ)) → (W → Option (List ℕ)) → Plan
    → List SeatView → Request → Reply → Type 0
WasTold remaining contents plan views q r = (b : Known) × (b.plan ≡ plan)
    × WasSeenIn views b.seen × (WasReplied b q r ⊎ WasHeard remaining contents b q r)

-- the request is an update of another segment than i
abbrev pub UpdatesAnother : ℕ → Request → Type 0
UpdatesAnother i (request.Update j k v) = j ≢ i
UpdatesAnother i request.Scan = ⊥
UpdatesAnother i request.Status = ⊥
UpdatesAnother i (request.Part set) = ⊥

module _ {D R W : Type 0} (disk : Disk.Ghosts D) (remaining : R → Option (List ℕ))
    (contents : W → Option (List ℕ)) where
  -- In some opening of these files somebody got this reply before the crash that ended the opening, or
  -- a `put` between two openings stored this update. Once a file was made anew, of what came before
  -- only the updates of other segments count.
  abbrev pub WasEverTold : (n : ℕ) (start : Start) (moments : List (List Update))
      (devices : List D) → Restarts disk n start moments devices → Request → Reply → Type 0
  WasEverTold n start [] _ (First _ devices kept) q r = ⊥
  WasEverTold n start (_ ∷ _) _
      (Crashed _ moments devices nexts writers crashed s past opened hon kept count each follow) q r =
      WasTold remaining contents opened.plan s.views q r ⊎ WasEverTold n start moments devices past q r
  WasEverTold n start _ _ (Interrupted _ moments devices news nexts past stay follow) q r =
      WasEverTold n start moments devices past q r
  WasEverTold n start _ _ (Spared _ moments devices nexts past same) q r = WasEverTold n start moments devices past q r
  WasEverTold n start (_ ∷ _) _ (Put _ moments devices nexts i k u v past held works) q r =
      ((q ≡ request.Update i (k + 1) v) × (r ≡ Stored (k + 1))) ⊎ WasEverTold n start moments devices past q r
  WasEverTold n start (_ ∷ _) _ (PutCutOff _ moments devices nexts i k u v past held works) q r =
      WasEverTold n start moments devices past q r
  WasEverTold n _ _ _ (Remade start _ moments _ devices nexts i k v past works from rest_is) q r =
      UpdatesAnother i q × WasEverTold n start moments devices past q r

  -- Over any number of crashes and starts: the files keep the memory after one history, made of the
  -- whole histories of all moments at which a crash came, and of each `put` between them; and it has
  -- all that was replied to anybody in any opening, and each update that a `put` stored.
  abbrev pub EverLaw : Type 0
  EverLaw = (n : ℕ) (start : Start) (moments : List (List Update)) (devices : List D)
      (past : Restarts disk n start moments devices) → (last : Last disk n start moments devices)
      × ((q : Request) (r : Reply) → WasEverTold n start moments devices past q r → Stands n start last.history q r)
