-- A client's calls over an honest connection.
use Rattle.std.proofs.Common.{◌≡◌, ◌⊎◌, ℕ, ◌≤◌, inl, inr, List, [], ◌∷◌, ◌++◌, length, map, All, Option, Some, None}
use Rattle.std.proofs.Common.{refl, ap, sym, ◌∙◌, arith, append_assoc, append-nil, length-append}
use Rattle.std.{proofs.lemmas.List.Elements.All-tail, specs.List.concat}
use Rattle.snap_disk.specs.declared.refusal.Refusal.{Refusal}
use Rattle.snap_history.specs.History.{Update, Start}
use Rattle.snap_register.specs.Seat.{Known}
use Rattle.snap_frame.specs.declared.reply.Reply.TheVariants.{Stored, Snapshot, Part, Refused}
use Rattle.snap_frame.specs.declared.frame_buffer.FrameFault.TheVariants.{TooLarge, NoMemory}
use Rattle.snap_frame.specs.Messages.{max_payload, payload, frame, says, Says}
use Rattle.snap_frame.specs.declared.{request.Request.Request, reply.Reply.Reply, frame_buffer.FrameFault.FrameFault}
use Rattle.snap_frame.proofs.{Exact.same_frame, Lengths.says_fits}
use Rattle.snap_session.specs.Talk.{Answer, Run, Moves, Phase, frames, refused_too_large}
use Rattle.snap_service.specs.Answers.{Answers}
use Rattle.snap_client.specs.Calls.{ClientState}
use Rattle.snap_laws.specs.{Told.Stands, Told.IsSendable, Told.AreTold, Laws.Returned, Laws.Converses, Laws.AllStand}
use Rattle.snap_laws.proofs.Payloads.{head_is}
use Rattle.snap_disk.specs.declared.refusal.Refusal.TheVariants as refusals
use Rattle.snap_frame.specs.declared.request.Request.TheVariants as request

-- ---- what a client wrote and read over some calls

-- the payloads received say these replies to the requests, one each
abbrev pub Spoken : List Request → List Reply → List (List ℕ) → Type 0
Spoken [] [] [] = Unit {0}
Spoken (q ∷ qs) (r ∷ rs) (x ∷ xs) = Says x r × Spoken qs rs xs
Spoken qs rs xs = ⊥

module _ {R W : Type 0} (remaining : R → Option (List ℕ)) (contents : W → Option (List ℕ)) where
  pub record Spoke (qs : List Request) (rs : List Reply) (read : List ℕ) (old new : ClientState R W) : Type 0 where
    pub payloads : List (List ℕ)
    pub cut : old.held ++ read ≡ frames payloads ++ new.held
    pub said : Spoken qs rs payloads

  spoke_on : (q : Request) (r : Reply) (qs : List Request) (rs : List Reply) (read more : List ℕ)
      (old mid new : ClientState R W) → Returned remaining contents q r read old mid
      → Spoke qs rs more mid new → Spoke (q ∷ qs) (r ∷ rs) (read ++ more) old new
  spoke_on q r qs rs read more old mid new returned on =
      let asked = returned.2.2 in record {
        payloads = returned.2.1 ∷ on.payloads;
        cut = simp (asked.silent, returned.3 ∙ returned.2.3.split, append_assoc, on.cut);
        said = (returned.2.4, on.said);
      }

  pub spoke : (qs : List Request) (rs : List Reply) (reads : List (List ℕ)) (old new : ClientState R W)
      → Converses remaining contents qs rs reads old new → Spoke qs rs (concat reads) old new
  spoke [] [] [] old new same = rw same (record { payloads = []; cut = append-nil old.held; said = tt })
  spoke (q ∷ qs) (r ∷ rs) (read ∷ reads) old new talk =
      spoke_on q r qs rs read (concat reads) old talk.0 new talk.1 (spoke qs rs reads talk.0 new talk.2)
  spoke qs rs reads old new talk = absurd talk

-- ---- the session's frames

abbrev pub AllFit : List (List ℕ) → Type 0
AllFit [] = Unit {0}
AllFit (x ∷ xs) = (length x ≤ max_payload) × AllFit xs

answer_fits : (a b : Known) (x y : List ℕ) → Answer Answers a x y b → length y ≤ max_payload
answer_fits a b x y (fits, inl is) = rw (is.4.1) (says_fits is.1 is.4.0)
answer_fits a b x y (fits, inr malformed) = rw (malformed.2) (says_fits (Refused refusals.Malformed 0) tt)

pub run_fits : (a b : Known) (xs ys : List (List ℕ)) → Run (Moves Answers) Answers a xs ys b → AllFit xs × AllFit ys
run_fits a b [] [] run = (tt, tt)
run_fits a b (x ∷ xs) (y ∷ ys) run =
    let rest = run_fits run.1 b xs ys run.4 in
    ((run.3.0, rest.0), (answer_fits run.0 run.1 x y run.3, rest.1))
run_fits a b xs ys run = absurd run

-- the bytes after all replies
pub tail_is : (o : Option FrameFault) (taken : List ℕ) (ps rs us : List (List ℕ)) (rest held tail : List ℕ)
    → Phase None o taken ps rs us rest held tail → (tail ≡ []) ⊎ (tail ≡ frame refused_too_large)
tail_is None taken ps rs us rest held tail p = inl p.1
tail_is (Some TooLarge) taken ps rs us rest held tail p = inr p.1
tail_is (Some NoMemory) taken ps rs us rest held tail p = inl p.1

-- no frame is empty
some_frame : (x rest : List ℕ) → frame x ++ rest ≡ [] → ⊥
some_frame x rest e = absurd (omega (arith, simp length-append at (ap length e)))

-- the first frame is unique
first_same : (x y r s : List ℕ) → length x ≤ max_payload → length y ≤ max_payload
    → frame x ++ r ≡ frame y ++ s → (x ≡ y) × (r ≡ s)
first_same x y r s x_fits y_fits e = same_frame (frame x ++ r) x y r s
    (record { fits = x_fits; split = refl }) (record { fits = y_fits; split = e })

-- ---- the client's results are the session's replies

-- a refusal says nothing about the history
refusal_stands : (n : ℕ) (start : Start) (h : List Update) (q : Request) (r : Reply) (why : Refusal)
    (detail : ℕ) → says r ≡ says (Refused why detail) → Stands n start h q r
refusal_stands n start h (request.Update i k v) (Stored m) why detail e = absurd (omega (arith, head_is _ _ _ _ e))
refusal_stands n start h request.Scan (Snapshot values) why detail e = absurd (omega (arith, head_is _ _ _ _ e))
refusal_stands n start h (request.Part set) (Part values) why detail e = absurd (omega (arith, head_is _ _ _ _ e))
refusal_stands n start h q r why detail e = tt

said_fits : (x : List ℕ) (r : Reply) → Says x r → length x ≤ max_payload
said_fits x r said = rw (said.1) (says_fits r said.0)

module _ (n : ℕ) (start : Start) (h : List Update) where
  -- no byte is left for another reply
  none_left : (qs : List Request) (rs : List Reply) (xs : List (List ℕ)) (more : List ℕ)
      → Spoken qs rs xs → frames xs ++ more ≡ [] → AllStand n start h qs rs
  none_left [] [] [] more spoken e = tt
  none_left (q ∷ qs) (r ∷ rs) (x ∷ xs) more spoken e =
      absurd (some_frame x (frames xs ++ more) (sym (append_assoc (frame x) (frames xs) more) ∙ e))
  none_left qs rs xs more spoken e = absurd spoken

  -- the session's only reply was that a length is above the limit
  refused_then : (q : Request) (r : Reply) (qs : List Request) (rs : List Reply) (x : List ℕ) (xs : List (List ℕ))
      (more tail : List ℕ) → Says x r → Spoken qs rs xs → frame x ++ (frames xs ++ more) ≡ tail
      → (tail ≡ []) ⊎ (tail ≡ frame refused_too_large) → AllStand n start h (q ∷ qs) (r ∷ rs)
  refused_then q r qs rs x xs more tail said spoken e (inl none) = absurd (some_frame x (frames xs ++ more) (e ∙ none))
  refused_then q r qs rs x xs more tail said spoken e (inr refused) =
      let same = first_same x refused_too_large (frames xs ++ more) [] (said_fits x r said)
      (says_fits (Refused refusals.TooLarge max_payload) tt)
      (e ∙ refused ∙ sym (append-nil (frame refused_too_large))) in (
        refusal_stands n start h q r refusals.TooLarge max_payload (sym said.1 ∙ same.0),
        none_left qs rs xs more spoken same.1,
      )

  pub answers_stand : (qs : List Request) (rs : List Reply) (xs ps ys us : List (List ℕ)) (rest tail more late : List ℕ)
      → All IsSendable qs → Spoken qs rs xs → AllFit ps → AllFit (ys ++ us) → AreTold n start h ps (ys ++ us)
      → frames (map payload qs) ≡ frames ps ++ (rest ++ late) → frames xs ++ more ≡ frames ys ++ tail
      → (tail ≡ []) ⊎ (tail ≡ frame refused_too_large) → AllStand n start h qs rs
  answers_stand [] [] [] ps ys us rest tail more late can spoken few fits told asked heard tails = tt
  answers_stand (q ∷ qs) (r ∷ rs) (x ∷ xs) ps [] us rest tail more late can spoken few fits told asked heard tails =
      refused_then q r qs rs x xs more tail spoken.0 spoken.1
      (sym (append_assoc (frame x) (frames xs) more) ∙ heard) tails
  answers_stand (q ∷ qs) (r ∷ rs) (x ∷ xs) [] (y ∷ ys) us rest tail more late can spoken few fits
      told asked heard tails = absurd told
  answers_stand (q ∷ qs) (r ∷ rs) (x ∷ xs) (p ∷ ps) (y ∷ ys) us rest tail more late can spoken few fits told asked heard
      tails =
      let sendable = can 0 q (omega arith) in
      let first = first_same (payload q) p (frames (map payload qs)) (frames ps ++ (rest ++ late)) sendable.2 few.0
      (asked ∙ append_assoc (frame p) (frames ps) (rest ++ late)) in
      let reply = first_same x y (frames xs ++ more) (frames ys ++ tail) (said_fits x r spoken.0) fits.0
      (sym (append_assoc (frame x) (frames xs) more) ∙ heard ∙ append_assoc (frame y) (frames ys) tail) in (
        told.0 q r sendable.0 (sendable.1, sym first.0) (spoken.0.0, sym reply.0 ∙ spoken.0.1),
        answers_stand qs rs xs ps ys us rest tail more late (All-tail IsSendable q qs can) spoken.1
            few.1 fits.1 told.1 first.1 reply.1 tails,
      )
  answers_stand qs rs xs ps ys us rest tail more late can spoken few fits told asked heard tails = absurd spoken
