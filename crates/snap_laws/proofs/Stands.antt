-- A fact of a history is one of each longer history, and of one that began earlier.
use Rattle.std.proofs.Common.{◌≡◌, ℕ, zero, suc, ◌<◌, List, [], ◌∷◌, ◌++◌, Some, slice_get, ap, sym, ◌∙◌, append_assoc}
use Rattle.std.proofs.lemmas.Option.{same_Some}
use Rattle.snap_history.specs.History.{Update, Start, IsBeginning, number_after, value_after}
use Rattle.snap_history.proofs.Beginnings.{beginning-trans}
use Rattle.snap_frame.specs.declared.reply.Reply.TheVariants.{Stored, Snapshot, Part}
use Rattle.snap_frame.specs.declared.{request.Request.Request, reply.Reply.Reply}
use Rattle.snap_restart.proofs.LifeStarts.{StartsAfter, number_on, value_on}
use Rattle.snap_restart.specs.Restarts.{without, from_there}
use Rattle.snap_restart.proofs.Commands.{without-append, number_without, value_without}
use Rattle.snap_laws.specs.{Told.Stands, Told.SideBySide, Ever.UpdatesAnother}
use Rattle.snap_frame.specs.declared.request.Request.TheVariants as request

-- ---- a longer history

pub stands_on : (n : ℕ) (start : Start) (h whole : List Update) (q : Request) (r : Reply)
    → IsBeginning h whole → Stands n start h q r → Stands n start whole q r
stands_on n start h whole (request.Update i k v) (Stored m) longer is =
    (is.0, is.1, (is.2.0, beginning-trans is.2.0 h whole is.2.1 longer, is.2.2, is.2.3))
stands_on n start h whole request.Scan (Snapshot values) longer (part, begins, is) =
    (part, beginning-trans part h whole begins longer, is)
stands_on n start h whole (request.Part set) (Part values) longer (part, begins, is) =
    (part, beginning-trans part h whole begins longer, is)
stands_on n start h whole q r longer is = tt

-- ---- a history from an earlier start on

-- the number and the value of a segment after the updates `part`
abbrev memory_at : Start → List Update → ℕ → ℕ × List ℕ
memory_at start part i = (number_after start part i, value_after start part i)

module _ (n : ℕ) (start : Start) (base : List Update) (next : Start) (after : StartsAfter n start base next) where
  begins_on : (part h : List Update) → IsBeginning part h → IsBeginning (base ++ part) (base ++ h)
  begins_on part h b = (b.0, ap (λ (x : List Update). base ++ x) b.1 ∙ sym (append_assoc base part b.0))

  memory_on : (part : List Update) (i : ℕ) → i < n
      → Some (memory_at next part i) ≡ Some (memory_at start (base ++ part) i)
  memory_on part i low = rw (number_on n start base next after part i low, value_on n start base next after part i low)

  pub stands_earlier : (h : List Update) (q : Request) (r : Reply) → Stands n next h q r
      → Stands n start (base ++ h) q r
  stands_earlier h (request.Update i k v) (Stored m) (low, is, (part, begins, number, value)) =
      let on = number ∙ number_on n start base next after part i low in
      let same = value ∙ value_on n start base next after part i low in
      (low, is, (base ++ part, begins_on part h begins, on, same))
  stands_earlier h request.Scan (Snapshot values) (part, begins, is) =
      let each = λ (i : ℕ) (low : i < n). is.each i low ∙ memory_on part i low in
      (base ++ part, begins_on part h begins, record { size = is.size; each = each })
  stands_earlier h (request.Part set) (Part values) (part, begins, is) = (
    base ++ part,
    begins_on part h begins,
    record { names = is.names; each = λ p i at. let e = is.each p i at in (e.0, e.1 ∙ memory_on part i e.0) },
  )
  stands_earlier h q r is = tt

-- ---- a history in which one segment begins again

pub stands_without : (n : ℕ) (start : Start) (i k : ℕ) (v : List ℕ) (h : List Update) (q : Request) (r : Reply)
    → UpdatesAnother i q → Stands n start h q r → Stands n (from_there start i k v) (without i h) q r
stands_without n start i k v h (request.Update j l w) (Stored m) other is =
    let part = is.2.0 in
    let rest = is.2.1.0 in
    let begins = ap (without i) is.2.1.1 ∙ without-append i part rest in
    let number = is.2.2 ∙ number_without start i k j v part other in
    let value = is.2.3 ∙ value_without start i k j v part other in
    (is.0, is.1, (without i part, (without i rest, begins), number, value))
stands_without n start i k v h (request.Update j l w) r other is = tt
stands_without n start i k v h q r other is = absurd other

-- ---- two lists side by side

pub beside_map : {A B : Type 0} (P Q : A → B → Type 0) → ((x : A) (y : B) → P x y → Q x y)
    → (xs : List A) (ys : List B) → SideBySide P xs ys → SideBySide Q xs ys
beside_map P Q f [] [] is = tt
beside_map P Q f (x ∷ xs) (y ∷ ys) is = (f x y is.0, beside_map P Q f xs ys is.1)
beside_map P Q f xs ys is = absurd is

-- the pair at place j
pub beside_at : {A B : Type 0} (P : A → B → Type 0) (xs : List A) (ys : List B) (j : ℕ) (x : A)
    (y : B) → SideBySide P xs ys → slice_get xs j ≡ Some x → slice_get ys j ≡ Some y → P x y
beside_at P (a ∷ xs) (b ∷ ys) zero x y is ex ey = rw (same_Some a x ex, same_Some b y ey) at is.0
beside_at P (a ∷ xs) (b ∷ ys) (suc j) x y is ex ey = beside_at P xs ys j x y is.1 ex ey
beside_at P [] ys j x y is ex ey = absurd (cc ex)
beside_at P (a ∷ xs) [] j x y is ex ey = absurd is
