-- The rounds of a turn.
use Rattle.std.proofs.Common.{◌≡◌, ℕ, ◌+◌, ◌<◌, ◌≤◌, List, [], length, Option, None, inl, inr, refl, ap, add-one, arith}
use Rattle.std.{specs.Io.KnownBytes.Consumes, proofs.KnownBytes.Consumes-nil}
use Rattle.snap_frame.specs.declared.{request.Request.Request, reply.Reply.Reply}
use Rattle.snap_session.specs.Talk.{Talk, GoesBy, Stays, HasTaken, most_answers}
use Rattle.snap_session.specs.Turns.{Scene, Sends, Round, WholeRound, WholeRounds, FewRounds, most_rounds}
use Rattle.snap_session.proofs.Steps.{rests, by_more}

abbrev pub scene : {S : Type 0} → S → Talk → Option (List ℕ) → Option (List ℕ) → Scene S
scene s t left written = record { service = s; talk = t; left = left; written = written }

module _ {S : Type 0} (gives : S → Request → Reply → S → Type 0) (most : ℕ) where
  -- bytes that are owed are written, then frames are answered, and a read returns nothing
  pub reads_nothing : (s t : S) (old mid new : Talk) (r0 r1 w0 w1 : Option (List ℕ))
      → Sends old mid w0 w1 → GoesBy most_answers Stays gives s t mid [] [] new
      → Consumes r0 r1 [] → Round gives most (scene s old r0 w0) (scene t new r1 w1)
  reads_nothing s t old mid new r0 r1 w0 w1 sends answers read = record {
    sent = mid;
    answered = new;
    piece = [];
    sends = sends;
    answers = answers;
    reads = (read, inl (refl, refl));
  }

  -- nothing is done but to write
  pub only_sends : (s : S) (old new : Talk) (r w0 w1 : Option (List ℕ)) → Sends old new w0 w1
      → Round gives most (scene s old r w0) (scene s new r w1)
  only_sends s old new r w0 w1 sends = reads_nothing s s old new new r r w0 w1 sends
      (by_more gives s s new [] [] new 0 most_answers (omega arith) (rests gives s new)) (Consumes-nil r)

  -- something new is owed, or the session is over
  pub answers_some : (s t : S) (old mid new : Talk) (r w0 w1 : Option (List ℕ)) → Sends old mid w0 w1
      → GoesBy most_answers Stays gives s t mid [] [] new → mid.owed ≡ [] → (new.over ≡ None → new.owed ≡ [] → ⊥)
      → WholeRound gives most (scene s old r w0) (scene t new r w1)
  unfolding reads_nothing
  answers_some s t old mid new r w0 w1 sends answers all some = record {
    round = reads_nothing s t old mid new r r w0 w1 sends answers (Consumes-nil r);
    all = all;
    gets_on = λ going none _. some going none;
  }

  -- bytes are read
  pub reads_some : (s t : S) (old mid answered new : Talk) (piece : List ℕ) (r0 r1 w0 w1 : Option (List ℕ))
      → Sends old mid w0 w1 → GoesBy most_answers Stays gives s t mid [] [] answered → mid.owed ≡ []
      → Consumes r0 r1 piece → 0 < length piece → length piece ≤ most → answered.over ≡ None → answered.owed ≡ []
      → answered.asked ≡ None → HasTaken answered piece new
      → WholeRound gives most (scene s old r0 w0) (scene t new r1 w1)
  reads_some s t old mid answered new piece r0 r1 w0 w1 sends answers all read some few going none free taken = record {
    round = record {
      sent = mid;
      answered = answered;
      piece = piece;
      sends = sends;
      answers = answers;
      reads = (read, inr (few, going, none, free, taken));
    };
    all = all;
    gets_on = λ _ _ empty. absurd (omega (arith, some, ap length empty));
  }

  pub one_more : (n : ℕ) (a b c : Scene S) → WholeRounds gives most n a b
      → WholeRound gives most b c → WholeRounds gives most (n + 1) a c
  one_more n a b c before round = rw add-one (b, before, round)

  pub and_last : (n : ℕ) (a b c : Scene S) → n < most_rounds → WholeRounds gives most n a b
      → Round gives most b c → FewRounds gives most a c
  and_last n a b c few before round = (n, b, few, before, round)
