-- A payload can be read as one request or reply only: the one that the service got or gave.
use Rattle.std.proofs.Common.{◌≡◌, ℕ, ◌<◌, ◌^◌, inl, inr, List, [], ◌∷◌, ◌++◌, drop, get_or, ap, sym, ◌∙◌, arith}
use Rattle.snap_history.specs.History.{Update, IsBeginning}
use Rattle.snap_register.specs.{History.starts, Rule.segments, Seat.Known}
use Rattle.snap_frame.specs.declared.reply.Reply.{TheVariants.Stored, TheVariants.Snapshot, TheVariants.Part, Reply}
use Rattle.snap_frame.specs.Messages.{payload, says, value_bytes, named_bytes, IsAskable, Asks, IsValue, IsNamedValue}
use Rattle.snap_frame.proofs.{BigEndian.same_number, Behind.values_apart, Behind.named_apart, Behind.same_entries}
use Rattle.snap_frame.{specs.Messages.IsInLimits, proofs.BigEndian.same_set, specs.declared.request.Request.Request}
use Rattle.snap_session.specs.Talk.{Answer}
use Rattle.snap_service.specs.Answers.{Answers}
use Rattle.snap_laws.{specs.Told.Stands, specs.Told.IsTold, proofs.Replies.stored, proofs.Replies.replied}
use Rattle.snap_frame.specs.declared.request.Request.TheVariants as request

-- the first elements are equal
pub head_is : (m n : ℕ) (xs ys : List ℕ) → m ∷ xs ≡ n ∷ ys → m ≡ n
head_is m n xs ys e = ap (λ (l : List ℕ). get_or l 0 0) e

-- the second elements are equal
second_is : (l m n o : ℕ) (xs ys : List ℕ) → l ∷ m ∷ xs ≡ n ∷ o ∷ ys → m ≡ o
second_is l m n o xs ys e = ap (λ (z : List ℕ). get_or z 1 0) e

same_update : (i j k l : ℕ) (v w : List ℕ) → k < 2 ^ 64 → l < 2 ^ 64
    → payload (request.Update i k v) ≡ payload (request.Update j l w) → (i ≡ j) × (k ≡ l) × (v ≡ w)
same_update i j k l v w k_fits l_fits e = grind (arith, second_is, same_number)

same_stored : (m n : ℕ) → m < 2 ^ 64 → n < 2 ^ 64 → says (Stored m) ≡ says (Stored n) → m ≡ n
same_stored m n m_fits n_fits e = (same_number m n [] [] m_fits n_fits (ap (λ (z : List ℕ). drop 1 z ++ []) e)).0

-- ---- an update that is stored

reads_stored : (a b : Known) (h : List Update) (i k n : ℕ) (v : List ℕ) (q : Request) (r : Reply)
    → k < 2 ^ 64 → payload (request.Update i k v) ≡ payload q → Answers a q r b
    → IsInLimits (Stored n) → IsInLimits r → says (Stored n) ≡ says r → IsBeginning b.seen h
    → Stands (segments b.plan) (starts b.plan) h (request.Update i k v) (Stored n)
reads_stored a b h i k n v (request.Update j l w) (Stored m) fits asked is low lower said seen =
    let told = stored a b j l m w h is seen in
    let number : m ≡ l = told.1 in
    let same = same_update i j k l v w fits (omega (arith, number, lower)) asked in
    let numbers = same_stored n m (omega (arith, low)) (omega (arith, lower)) said in
    (rw same.0 told.0, numbers ∙ number ∙ sym same.1, rw (same.0, same.1, same.2) told.2)
reads_stored a b h i k n v (request.Update j l w) r fits asked is low lower said seen =
    absurd (omega (arith, head_is _ _ _ _ said))
reads_stored a b h i k n v q r fits asked is low lower said seen = absurd (omega (arith, head_is _ _ _ _ asked))

-- ---- a scan

reads_scan : (a b : Known) (h : List Update) (values : _) (q : Request) (r : Reply) → payload request.Scan ≡ payload q
    → Answers a q r b → IsInLimits (Snapshot values) → IsInLimits r → says (Snapshot values) ≡ says r
    → IsBeginning b.seen h → Stands (segments b.plan) (starts b.plan) h request.Scan (Snapshot values)
reads_scan a b h values request.Scan (Snapshot others) asked is low lower said seen =
    let told = replied a b request.Scan (Snapshot others) h is seen in
    let same = same_entries value_bytes IsValue values.items others.items values_apart low.each
    lower.each (second_is _ _ _ _ _ _ said) (ap (drop 2) said) in
    (told.0, told.1, rw same told.2)
reads_scan a b h values request.Scan r asked is low lower said seen = absurd (omega (arith, head_is _ _ _ _ said))
reads_scan a b h values q r asked is low lower said seen = absurd (omega (arith, head_is _ _ _ _ asked))

-- ---- a scan of some segments

reads_part : (a b : Known) (h : List Update) (set values : _) (q : Request) (r : Reply) → IsAskable (request.Part set)
    → IsAskable q → payload (request.Part set) ≡ payload q → Answers a q r b → IsInLimits (Part values) → IsInLimits r
    → says (Part values) ≡ says r → IsBeginning b.seen h
    → Stands (segments b.plan) (starts b.plan) h (request.Part set) (Part values)
reads_part a b h set values (request.Part other) (Part others) may can asked is low lower said seen =
    let told = replied a b (request.Part other) (Part others) h is seen in
    let sets = same_set set.bits other.bits may.1 can.1 (ap (drop 1) asked) in
    let same = same_entries named_bytes IsNamedValue values.items others.items named_apart
    low.0.each lower.0.each (second_is _ _ _ _ _ _ said) (ap (drop 2) said) in
    (told.0, told.1, rw (sets, same) told.2)
reads_part a b h set values (request.Part other) r may can asked is low lower said seen =
    absurd (omega (arith, head_is _ _ _ _ said))
reads_part a b h set values q r may can asked is low lower said seen = absurd (omega (arith, head_is _ _ _ _ asked))

-- ---- any answer

reads : (a b : Known) (h : List Update) (x y : List ℕ) (p : Request) (s : Reply) → Asks x p → Answers a p s b
    → IsInLimits s → y ≡ says s → IsBeginning b.seen h → IsTold (segments b.plan) (starts b.plan) h x y
reads a b h x y p s asks is lower told seen (request.Update i k v) (Stored n) fits asked said =
    reads_stored a b h i k n v p s fits (sym asked.1 ∙ asks.1) is said.0 lower (sym said.1 ∙ told) seen
reads a b h x y p s asks is lower told seen request.Scan (Snapshot values) fits asked said =
    reads_scan a b h values p s (sym asked.1 ∙ asks.1) is said.0 lower (sym said.1 ∙ told) seen
reads a b h x y p s asks is lower told seen (request.Part set) (Part values) fits asked said =
    reads_part a b h set values p s asked.0 asks.0 (sym asked.1 ∙ asks.1) is said.0 lower (sym said.1 ∙ told) seen
reads a b h x y p s asks is lower told seen q r fits asked said = tt

pub told : (a b : Known) (h : List Update) (x y : List ℕ) → Answer Answers a x y b
    → IsBeginning b.seen h → IsTold (segments b.plan) (starts b.plan) h x y
told a b h x y (fits, inl is) seen = reads a b h x y is.0 is.1 is.2 is.3 is.4.0 is.4.1 seen
told a b h x y (fits, inr malformed) seen = λ q r number asked said. absurd (malformed.0 q asked)
