-- Joining the steps of a session.
use Rattle.std.proofs.Common.{◌≡◌, ◌+◌, ℕ, List, [], ◌++◌, length, length-append, arith, Option, Some, None, refl}
use Rattle.std.proofs.Common.{◌∙◌, ap, append-nil, append_assoc}
use Rattle.snap_frame.specs.declared.frame_buffer.FrameFault.TheVariants.{TooLarge, NoMemory}
use Rattle.snap_frame.specs.declared.{request.Request.Request, reply.Reply.Reply, frame_buffer.FrameFault.FrameFault}
use Rattle.snap_session.specs.Talk.{Talk, Goes, GoesBy, Stays, Moves, Run, Phase, frames, came}
use Rattle.snap_session.proofs.Runs.{frames-append, Joins, run_on, stays_joins, loosen as loosen_run}

-- the phase doesn't depend on the bytes taken in, the payloads and the replies
phase_any : (o : Option FrameFault) (taken more : List ℕ) (ps qs rs ss us : List (List ℕ)) (rest held tail : List ℕ)
    → Phase None o taken ps rs us rest held tail → Phase None o more qs ss us rest held tail
phase_any None taken more ps qs rs ss us rest held tail p = p
phase_any (Some TooLarge) taken more ps qs rs ss us rest held tail p = p
phase_any (Some NoMemory) taken more ps qs rs ss us rest held tail p = p

-- a session that is over stays over
phase_over : (o : Option FrameFault) (w : FrameFault) (taken : List ℕ) (ps rs us : List (List ℕ))
    (rest held kept tail : List ℕ) → Phase o (Some w) taken ps rs us rest held tail
    → Phase o (Some w) taken ps rs us rest kept tail
phase_over None TooLarge taken ps rs us rest held kept tail p = p
phase_over None NoMemory taken ps rs us rest held kept tail p = p
phase_over (Some a) w taken ps rs us rest held kept tail p = p

abbrev WasGoing : Option FrameFault → List (List ℕ) → List ℕ → List ℕ → List ℕ → Type 0
WasGoing o us tail held rest = (o ≡ None) × (us ≡ []) × (tail ≡ []) × (held ≡ rest)

was_going : (o : Option FrameFault) (taken : List ℕ) (ps rs us : List (List ℕ)) (rest held tail : List ℕ)
    → Phase o None taken ps rs us rest held tail → WasGoing o us tail held rest
was_going None taken ps rs us rest held tail p = (refl, p.0, p.1, p.2)
was_going (Some a) taken ps rs us rest held tail p = let wrong : None ≡ Some a = p.0 in absurd cc

module _ {S : Type 0} (between : S → S → Type 0) (joins : Joins between)
    (gives : S → Request → Reply → S → Type 0) (s t u : S) (t0 t1 t2 : Talk)
    (a b g h : List ℕ) where
  goes_going : t1.over ≡ None → (one : Goes between gives s t t0 a g t1) → (two : Goes between gives t u t1 b h t2)
      → GoesBy (length one.payloads + length two.payloads) between gives s u t0 (a ++ b) (g ++ h) t2
  goes_going going one two =
      let was = was_going t0.over a one.payloads one.replies one.unsaid one.rest
      (came t1) one.tail (rw going at one.phase) in
      let ps = one.payloads ++ two.payloads in
      let rs = one.replies ++ two.replies in (
        record {
          payloads = ps;
          replies = rs;
          unsaid = two.unsaid;
          rest = two.rest;
          tail = two.tail;
          run = rw (was.1, append-nil one.replies, ← append_assoc one.replies two.replies two.unsaid)
              at (run_on between joins gives s t u one.payloads (one.replies ++ one.unsaid) two.payloads
              (two.replies ++ two.unsaid) one.run two.run);
          cut = rw (
            ← append_assoc (came t0) a b,
            one.cut,
            ← was.3,
            append_assoc (frames one.payloads) (came t1) b,
            two.cut,
            frames-append,
            append_assoc,
          );
          said = rw (
            append_assoc g h t2.owed,
            two.said,
            ← append_assoc g t1.owed,
            one.said,
            was.2,
            append-nil (frames one.replies),
            append_assoc t0.owed,
            frames-append,
            append_assoc,
          );
          phase = rw was.0 (phase_any t2.over b (a ++ b) two.payloads ps two.replies rs two.unsaid two.rest
              (came t2) two.tail (rw going at two.phase));
        },
        omega (arith, length-append one.payloads two.payloads),
      )

  goes_over : (w : FrameFault) → t1.over ≡ Some w → (one : Goes between gives s t t0 a g t1)
      → (two : Goes between gives t u t1 b h t2)
      → GoesBy (length one.payloads + length two.payloads) between gives s u t0 (a ++ b) (g ++ h) t2
  goes_over w over one two =
      let after = rw over at two.phase in
      let same : a ++ b ≡ a = ap (λ zs. a ++ zs) after.1 ∙ append-nil a in
      let answers = one.replies ++ one.unsaid in (
        record {
          payloads = one.payloads;
          replies = one.replies;
          unsaid = one.unsaid;
          rest = one.rest;
          tail = one.tail;
          run = rw (after.2, after.3, after.4, append-nil one.payloads, append-nil answers)
              at (run_on between joins gives s t u one.payloads answers two.payloads
              (two.replies ++ two.unsaid) one.run two.run);
          cut = rw same one.cut;
          said = rw (append_assoc g h t2.owed, two.said, after.3, after.5, append-nil t1.owed) one.said;
          phase = rw (same, after.0) (phase_over t0.over w a one.payloads one.replies one.unsaid one.rest (came t1)
              (came t2) one.tail (rw over at one.phase));
        },
        omega arith,
      )

  goes_by : (o : Option FrameFault) → t1.over ≡ o → (one : Goes between gives s t t0 a g t1)
      → (two : Goes between gives t u t1 b h t2)
      → GoesBy (length one.payloads + length two.payloads) between gives s u t0 (a ++ b) (g ++ h) t2
  goes_by None is one two = goes_going is one two
  goes_by (Some w) is one two = goes_over w is one two

  -- two steps of a session, one after the other, are one
  pub goes_on : Goes between gives s t t0 a g t1 → Goes between gives t u t1 b h t2
      → Goes between gives s u t0 (a ++ b) (g ++ h) t2
  goes_on one two = (goes_by t1.over refl one two).0

-- another run of these payloads, with equal replies, gives `Goes` too
pub by_run : {S : Type 0} (before between : S → S → Type 0) (gives : S → Request → Reply → S → Type 0) (s t u : S)
    (old : Talk) (taken given : List ℕ) (new : Talk) (one : Goes before gives s t old taken given new)
    → Run between gives s one.payloads (one.replies ++ one.unsaid) u → Goes between gives s u old taken given new
by_run before between gives s t u old taken given new one run = record {
  payloads = one.payloads;
  replies = one.replies;
  unsaid = one.unsaid;
  rest = one.rest;
  tail = one.tail;
  run = run;
  cut = one.cut;
  said = one.said;
  phase = one.phase;
}

module _ {S : Type 0} (gives : S → Request → Reply → S → Type 0) where
  -- two steps with nothing read or written are one, with the frames that both answer
  pub goes_more : (s t u : S) (t0 t1 t2 : Talk) (m n : ℕ) → GoesBy m Stays gives s t t0 [] [] t1
      → GoesBy n Stays gives t u t1 [] [] t2 → GoesBy (m + n) Stays gives s u t0 [] [] t2
  goes_more s t u t0 t1 t2 m n one two =
      let both = goes_by Stays stays_joins gives s t u t0 t1 t2 [] [] [] [] t1.over refl one.0 two.0 in
      (both.0, omega (arith, both.1, one.1, two.1))

  -- a step without other sessions in between is also one in which there may be some
  pub loosen : (s t : S) (old : Talk) (taken given : List ℕ) (new : Talk)
      → Goes Stays gives s t old taken given new → Goes (Moves gives) gives s t old taken given new
  loosen s t old taken given new one = by_run Stays (Moves gives) gives s t t old taken given new one
      (loosen_run gives s t one.payloads (one.replies ++ one.unsaid) one.run)
