-- The laws' premises can be met: a session answers one request, and a client makes that call.
use Rattle.std.proofs.Common.{sym, ◌∙◌, arith, append-nil, ◌≡◌, ℕ, inl, List, [], ◌∷◌, ◌++◌, Option, Some, None, Result}
use Rattle.std.{specs.Io.KnownBytes.Appends, specs.Io.KnownBytes.Consumes, proofs.lemmas.List.Elements.All-cons}
use Rattle.std.proofs.{Common.Ok, Common.Err, Common.IfOk, Common.refl, Common.ap, lemmas.Option.same_Some}
use Rattle.snap_register.specs.Seat.{Known}
use Rattle.snap_frame.specs.Messages.{payload, frame, says, IsInLimits}
use Rattle.snap_frame.specs.declared.{request.Request.Request, reply.Reply.Reply, reply.Reply.TheVariants.Stored}
use Rattle.snap_frame.proofs.Lengths.{says_fits}
use Rattle.snap_service.specs.Answers.{Answers, Settled}
use Rattle.snap_client.specs.{declared.fault.ClientFault.ClientFault, Calls.ClientState, Calls.Calls, Calls.fresh}
use Rattle.snap_laws.specs.Heard.{bytes_of, socket, HeardLaw, HearsFrom, scanner_after, first_update, FirstHeard}
use Rattle.snap_laws.specs.{Told.IsSendable, Laws.SessionUpTo, Laws.Begins}
use Rattle.snap_laws.proofs.ClientAnswers.{answered_stands}
use Rattle.snap_frame.specs.declared.request.Request.TheVariants as request
use Rattle.snap_session.specs.Talk as session
use Rattle.snap_client.specs.Calls as calls

-- a session that read one request and wrote the reply to it
abbrev one_turn : (a b : Known) (q : Request) (r : Reply) → IsSendable q → IsInLimits r → Answers a q r b
    → SessionUpTo b
one_turn a b q r can low is = record {
  began = a;
  talk = session.start;
  read_old = Some (frame (payload q) ++ []);
  read_new = Some [];
  written_old = Some [];
  written_new = Some ([] ++ frame (says r));
  turns = record {
    taken = frame (payload q);
    given = frame (says r);
    read = refl;
    writes = refl;
    goes = record {
      payloads = payload q ∷ [];
      replies = says r ∷ [];
      unsaid = [];
      rest = [];
      tail = [];
      run = (a, b, ([], [], refl), (can.2, inl (q, r, (can.1, refl), is, (low, refl))), ([], [], refl));
      cut = sym (append-nil (frame (payload q) ++ []) ∙ append-nil (frame (payload q)));
      said = append-nil (frame (says r)) ∙ sym (append-nil (frame (says r) ++ []) ∙ append-nil (frame (says r)));
      phase = (refl, refl, refl);
    };
  };
}

-- ---- a call of a client

-- what was read is a beginning of what a reader with known bytes had
read_of : (o n : Option (List ℕ)) (all came : List ℕ) → o ≡ Some all → Consumes o n came → Begins came all
read_of None n all came has is = absurd (cc has)
read_of (Some xs) None all came has is = absurd is
read_of (Some xs) (Some ys) all came has is = (ys, sym (same_Some xs all has) ∙ is)

pub hears : {R W : Type 0} (remaining : R → Option (List ℕ)) (contents : W → Option (List ℕ)) (reader : R) (writer : W)
    (q : Request) (result : Result Reply ClientFault) (new : ClientState R W) → IsSendable q
    → Calls remaining contents q (fresh reader writer) result new
    → IfOk result (λ r. HearsFrom remaining contents reader q r)
hears remaining contents reader writer q (Err fault) new can calls = tt
hears remaining contents reader writer q (Ok r) new can calls = record {
  read = calls.0.0;
  of_reader = λ given has. read_of (remaining reader) (remaining new.reader) given calls.0.0 has calls.0.2.read;
  was_answered = λ b s taken begins. record {
    reader = reader;
    writer = writer;
    now = new;
    reads = calls.0.0 ∷ [];
    sendable = All-cons IsSendable q [] can (λ k d l. absurd (omega arith));
    converses = (new, (refl, calls.1, calls.0, refl), refl);
    served = s;
    connection = record {
      taken_is = ([], append-nil (frame (payload q)) ∙ sym taken ∙ sym (append-nil s.turns.taken));
      given_is = (begins.0, begins.1 ∙ ap (λ (z : List ℕ). z ++ begins.0) (sym (append-nil calls.0.0)));
    };
  };
}

-- a client of this reader and this writer, to which the reply arrives
heard_by : {R W : Type 0} (remaining : R → Option (List ℕ)) (contents : W → Option (List ℕ)) (r0 r1 : R) (w0 w1 : W)
    (q : Request) (r : Reply) → Consumes (remaining r0) (remaining r1) (frame (says r))
    → Appends (contents w0) (contents w1) (frame (payload q)) → IsInLimits r → calls.Answers q r
    → Calls remaining contents q (fresh r0 w0) (Ok r) (fresh r1 w1)
heard_by remaining contents r0 r1 w0 w1 q r read wrote low kind = (
  (
    frame (says r),
    says r,
    record { silent = refl; wrote = wrote; read = read },
    record { fits = says_fits r low; split = sym (append-nil (frame (says r))) },
    (low, refl),
    kind,
  ),
  refl,
)

pub heard : HeardLaw bytes_of bytes_of
unfolding hears heard_by
heard a b q r can low kind is =
    let hears_it = hears bytes_of bytes_of (frame (says r)) [] q (Ok r) (fresh [] (frame (payload q))) can
    (heard_by bytes_of bytes_of (frame (says r)) [] [] (frame (payload q)) q r
    (sym (append-nil (frame (says r)))) refl low kind) in
    hears_it.was_answered b (one_turn a b q r can low is) refl ([], sym (append-nil (frame (says r))))

pub heard_on_sockets : HeardLaw socket socket
unfolding hears heard_by
heard_on_sockets a b q r can low kind is =
    let hears_it = hears socket socket tt tt q (Ok r) (fresh tt tt) can
    (heard_by socket socket tt tt tt tt q r tt tt low kind) in
    hears_it.was_answered b (one_turn a b q r can low is) refl ([], sym (append-nil (frame (says r))))

pub first_heard : FirstHeard
first_heard =
    let was = heard (scanner_after []) (scanner_after (first_update ∷ [])) (request.Update 0 1 (7 ∷ [])) (Stored 1)
    (omega arith, tt, omega arith) (omega arith) tt (Settled (omega arith) (omega arith) (refl, refl, refl) (record {
      table = refl;
      plan = refl;
      low = refl;
      high = refl;
      later = (first_update ∷ [], refl);
      own = λ i low high. absurd (omega arith);
      phase = refl;
    })) in
    let stands = answered_stands bytes_of bytes_of (scanner_after (first_update ∷ []))
    (request.Update 0 1 (7 ∷ []) ∷ []) (Stored 1 ∷ []) (first_update ∷ []) was ([], refl) in
    (was, stands.0.2)
