-- The result of `decode`, as a property of the bytes held.
use Rattle.std.proofs.Common.{◌≡◌, ◌≢◌, ℕ, ◌≤◌, List, ◌++◌, [], length, take, drop, replicate, Option, Some, None}
use Rattle.std.proofs.Common.{IfNone, Ok, Err, inl, inr, refl, sym, ◌∙◌, ap, ap₂, subst, arith, append_assoc}
use Rattle.std.proofs.Common.{length-append, length-take, pos}
use Rattle.std.specs.declared.io.ErrorKind.TheVariants.{InvalidData, InvalidInput, OutOfMemory}
use Rattle.std.proofs.lemmas.List.{append_cancel_right, length-replicate, get_or_append_left, get_or-append_right}
use Rattle.std.proofs.lemmas.List.{get_or-replicate, get_or_past}
use Rattle.std.specs.{Int.w32, Int.to_be_bytes, IoError.error_kind, IoError.kind_at, declared.io.Error.Error}
use Rattle.std.proofs.lemmas.Bool.{cases_lt}
use Rattle.bytes.specs.Filled.{Filled}
use Rattle.tokio_util.specs.declared.codec.length_delimited.LengthDelimitedCodec.{LengthDelimitedCodec}
use Rattle.tokio_util.specs.declared.codec.length_delimited.DecodeState.{DecodeState}
use Rattle.tokio_util.specs.declared.codec.length_delimited.DecodeState.TheVariants.{Head, Data}
use Rattle.tokio_util.specs.Codec.Next.{decoded, Decodes}
use Rattle.tokio_util.specs.Codec.LengthField.{Layout, field_value, add_adjustment, head_len, skip_len}
use Rattle.tokio_util.specs.Codec.LengthDelimited.{codec_layout, with_state, Cut, frame, too_big, overflows, unfinished}
use Rattle.tokio_util.specs.Codec.LengthDelimited.{cut_payload, cut_adjusted, cut_frame, cut_in, cut, Answers}
use Rattle.tokio_util.specs.Codec.LengthDelimited.{IsSettled, gives_frames}
use Rattle.tokio_util.specs.Codec.LengthDelimitedLaws.{cut_payload_whole, cut_payload_short, cut_frame_big}
use Rattle.tokio_util.specs.Codec.LengthDelimitedLaws.{cut_frame_head, cut_frame-append_head}
use Rattle.snap_frame.specs.Stream.{HasFrame, HasLongLength, IsPartial, pending, pending_in, StateFits, feed_layout}
use Rattle.snap_frame.specs.Stream.{Ready, Found, IsBytes}
use Rattle.snap_frame.proofs.Cuts.{Means, head_means, payload_means}
use Rattle.snap_frame.specs.Messages as messages

means_in : (s : DecodeState) (xs : List ℕ) → StateFits s → IsBytes xs
    → Means (pending_in s xs) (cut_in feed_layout s xs)
means_in Head xs fits bytes = head_means xs bytes
means_in (Data n) xs fits bytes = payload_means n xs fits

pub means : (c : LengthDelimitedCodec) (xs : List ℕ) → codec_layout c ≡ feed_layout
    → StateFits c.state → IsBytes xs → Means (pending c xs) (cut c xs)
means c xs is fits bytes =
    subst (λ (l : Layout). Means (pending c xs) (cut_in l c.state xs)) (sym is) (means_in c.state xs fits bytes)

pending-append : (s : DecodeState) (xs more : List ℕ) → pending_in s (xs ++ more) ≡ pending_in s xs ++ more
pending-append Head xs more = refl
pending-append (Data n) xs more = sym (append_assoc (to_be_bytes w32 n) xs more)

abbrev payload_of : Cut → List ℕ
payload_of (frame p r) = p
payload_of too_big = []
payload_of overflows = []
payload_of (unfinished s k) = []

-- a payload that was found fits, so the length that was waited for does
state_fits : (s : DecodeState) (zs p r : List ℕ) → cut_in feed_layout s zs ≡ frame p r
    → length p ≤ messages.max_payload → StateFits s
state_fits Head zs p r e fits = tt
state_fits (Data n) zs p r e fits =
    elim (cases_lt (length zs) n) [
      | inl short ↦ let is = cut_payload_short n zs short in
          let wrong : unfinished (Data n) zs ≡ frame p r = sym is ∙ e in absurd cc
      | inr whole ↦
          let same : take n zs ≡ p = ap payload_of (sym (cut_payload_whole n zs whole) ∙ e) in
          omega (arith, ap length same, length-take n zs)
    ]

abbrev pub IsDone : Cut → Type 0
IsDone (frame p r) = Unit {0}
IsDone too_big = Unit {0}
IsDone overflows = Unit {0}
IsDone (unfinished s k) = ⊥

payload_done : (n : ℕ) (xs : List ℕ) → n ≤ length xs → IsDone (cut_payload n xs)
payload_done n xs whole = subst IsDone (sym (cut_payload_whole n xs whole)) tt

pub bytes-append : (xs ys : List ℕ) → IsBytes xs → IsBytes ys → IsBytes (xs ++ ys)
bytes-append xs ys one two i =
    elim (cases_lt i (length xs)) [
      | inl below ↦ rw (get_or_append_left xs ys 0 i below) (one i)
      | inr past ↦ rw (get_or-append_right xs ys (length xs) i 0 refl past) (two _)
    ]

abbrev blank : ℕ → List ℕ
blank n = replicate {A = ℕ} n 0

length-blank : (n : ℕ) → length (blank n) ≡ n
length-blank n = length-replicate {A = ℕ} n 0

zeros : (n : ℕ) → IsBytes (blank n)
zeros n i =
    elim (cases_lt i n) [
      | inl below ↦ rw (get_or-replicate {A = ℕ} n i 0 0 below) (omega arith)
      | inr past ↦ rw (get_or_past (blank n) i 0 (omega (arith, length-blank n))) (omega arith)
    ]

pub record Finish (l : Layout) (s : DecodeState) (xs : List ℕ) : Type 0 where
  pub more : List ℕ
  pub bytes : IsBytes more
  pub done : IsDone (cut_in l s (xs ++ more))

-- with enough bytes after it every input has an answer
head_finish : (l : Layout) (xs : List ℕ) → Finish l Head xs
head_finish l xs =
    let pad = blank (head_len l) in
    let z = xs ++ pad in
    let long : head_len l ≤ length z = omega (arith, length-append xs pad, length-blank (head_len l)) in
    elim (cases_lt l.max_frame_len (field_value l z)) [
      | inl big ↦ record { more = pad; bytes = zeros _; done = subst IsDone (sym (cut_frame_big l z long big)) tt }
      | inr small ↦
          elim (add_adjustment (field_value l z) l.adjustment) as (λ o.
          add_adjustment (field_value l z) l.adjustment ≡ o → Finish l Head xs) [
            | None ↦ λ e. record {
              more = pad;
              bytes = zeros _;
              done =
                  subst IsDone (sym (cut_frame_head l z long small
                  ∙ ap (λ o. cut_adjusted o (drop (skip_len l) z)) e)) tt;
            }
            | Some n ↦ λ e.
                let pad2 = blank n in
                let is : cut_frame l (xs ++ (pad ++ pad2)) ≡ cut_payload n (drop (skip_len l) z ++ pad2) =
                ap (cut_frame l) (sym (append_assoc xs pad pad2)) ∙ cut_frame-append_head l z pad2 long small
                ∙ ap (λ o. cut_adjusted o (drop (skip_len l) z ++ pad2)) e in
                record {
                  more = pad ++ pad2;
                  bytes = bytes-append pad pad2 (zeros _) (zeros _);
                  done = subst IsDone (sym is)
                      (payload_done n _ (omega (arith, length-append (drop (skip_len l) z) pad2, length-blank n)));
                }
          ] refl
    ]

finish : (l : Layout) (s : DecodeState) (xs : List ℕ) → Finish l s xs
finish l Head xs = head_finish l xs
finish l (Data n) xs = record {
  more = blank n;
  bytes = zeros n;
  done = payload_done n _ (omega (arith, length-append xs (blank n), length-blank n));
}

-- an error that a codec may return
abbrev error_of : ℕ → Error
error_of k = record {
  repr = 1;
  kind = k;
  len = 0;
  code = pos 0;
  message = record { 0 = 0; 1 = 0; 2 = 0; 3 = 0; 4 = 0; 5 = 0; 6 = 0; 7 = 0; 8 = 0; 9 = 0 };
}

data_kind : error_kind (error_of 21) ≡ InvalidData
unfolding kind_at
data_kind = refl

input_kind : error_kind (error_of 20) ≡ InvalidInput
unfolding kind_at
input_kind = refl

not_data : InvalidData ≡ OutOfMemory → ⊥
not_data wrong = absurd cc

not_input : InvalidInput ≡ OutOfMemory → ⊥
not_input wrong = absurd cc

heard_frame : (c t : LengthDelimitedCodec) (zs held : List ℕ) (v : Cut) (b : Filled) (r : List ℕ)
    → Means held v → Answers c zs v (Ok b) t r → HasFrame held b.items r × (t ≡ with_state c Head)
heard_frame c t zs held (frame p rest) b r means heard = (
  subst (λ (x : List ℕ). HasFrame held x r) (sym heard.0)
      (subst (λ (x : List ℕ). HasFrame held p x) (sym heard.2) means),
  heard.1,
)
heard_frame c t zs held too_big b r means heard = absurd heard
heard_frame c t zs held overflows b r means heard = absurd heard
heard_frame c t zs held (unfinished s k) b r means heard = absurd heard

heard_error : (c t : LengthDelimitedCodec) (zs ws : List ℕ) (v : Cut) (e : Error)
    → error_kind e ≢ OutOfMemory → Answers c zs v (Err e) t ws → (t ≡ c) × (ws ≡ zs)
heard_error c t zs ws (frame p r) e not_memory heard = absurd (not_memory heard.0)
heard_error c t zs ws too_big e not_memory heard = (heard.1, heard.2)
heard_error c t zs ws overflows e not_memory heard = (heard.1, heard.2)
heard_error c t zs ws (unfinished s k) e not_memory heard = absurd heard

pub taken : (c t : LengthDelimitedCodec) (xs ys : List ℕ) (b : Filled) → Ready c → IsBytes xs
    → Decodes gives_frames c xs (Ok (Some b)) t ys → HasFrame (pending c xs) b.items (pending t ys) × Ready t
taken c t xs ys b ready bytes told =
    let heard = heard_frame c t xs (pending c xs) (cut c xs) b ys (means c xs ready.layout ready.fits bytes) told in
    let head : t.state ≡ Head = ap (λ (z : LengthDelimitedCodec). z.state) heard.1 in (
      subst (λ (s : DecodeState). HasFrame (pending c xs) b.items (pending_in s ys)) (sym head) heard.0,
      record { layout = ap codec_layout heard.1 ∙ ready.layout; fits = subst StateFits (sym head) tt },
    )

pub waits : (c t : LengthDelimitedCodec) (xs ys : List ℕ) → Ready c → IsBytes xs → IsBytes ys
    → Decodes gives_frames c xs (Ok None) t ys → (pending t ys ≡ pending c xs) × Ready t
waits c t xs ys ready bytes_xs bytes_ys told =
    let end = finish (codec_layout t) t.state ys in
    let more = end.more in
    let zs = ys ++ more in
    let known : Means (pending c (xs ++ more)) (cut c (xs ++ more)) =
    means c (xs ++ more) ready.layout ready.fits (bytes-append xs more bytes_xs end.bytes) in
    let same : t ≡ c → ys ++ more ≡ xs ++ more → (pending t ys ≡ pending c xs) × Ready t =
    λ codec e.
    let left : ys ≡ xs = append_cancel_right ys xs more e in
    subst (λ (z : LengthDelimitedCodec). (pending z ys ≡ pending c xs)
    × Ready z) (sym codec) (ap (pending c) left, ready) in
    let fails : (e : Error) → error_kind e ≢ OutOfMemory
    → gives_frames t zs (decoded (Err e) t zs) → (pending t ys ≡ pending c xs) × Ready t =
    λ e never said.
    let heard = heard_error c t (xs ++ more) zs (cut c (xs ++ more)) e never
    (told.1 more (decoded (Err e) t zs) said) in
    same heard.0 heard.1 in
    elim (cut t zs) as (λ v. cut t zs ≡ v → IsDone v → (pending t ys ≡ pending c xs) × Ready t) [
      | frame p r ↦ λ e _.
          let b : Filled = record { items = p; spare = 0 } in
          let u = with_state t Head in
          let said : gives_frames t zs (decoded (Ok b) u r) =
          subst (λ (v : Cut). Answers t zs v (Ok b) u r) (sym e) (refl, refl, refl) in
          let heard = heard_frame c u (xs
          ++ more) _ (cut c (xs ++ more)) b r known (told.1 more (decoded (Ok b) u r) said) in
          let laid : codec_layout t ≡ feed_layout = ap codec_layout heard.1 ∙ ready.layout in
          let found : cut_in feed_layout t.state zs ≡ frame p r =
          ap (λ (l : Layout). cut_in l t.state zs) (sym laid) ∙ e in
          let fits : StateFits t.state = state_fits t.state zs p r found heard.0.fits in
          let mine : HasFrame (pending t zs) p r = subst (Means (pending t zs)) found
          (means_in t.state zs fits (bytes-append ys more bytes_ys end.bytes)) in (
            append_cancel_right _ _ more (sym (pending-append t.state ys more) ∙ mine.split
                ∙ sym heard.0.split ∙ pending-append c.state xs more),
            record { layout = laid; fits = fits },
          )
      | too_big ↦ λ e _. fails (error_of 21) (λ m. not_data (sym data_kind ∙ m))
          (subst (λ (v : Cut). Answers t zs v (Err (error_of 21)) t zs) (sym e) (data_kind, refl, refl))
      | overflows ↦ λ e _. fails (error_of 20) (λ m. not_input (sym input_kind ∙ m))
          (subst (λ (v : Cut). Answers t zs v (Err (error_of 20)) t zs) (sym e) (input_kind, refl, refl))
      | unfinished s k ↦ λ _ none. absurd none
    ] refl end.done

pub answered : (c t : LengthDelimitedCodec) (xs ys : List ℕ) (o : Option Filled) → Ready c
    → IsBytes xs → IsBytes ys → Decodes gives_frames c xs (Ok o) t ys → IfNone o (IsSettled t ys)
    → Found (pending c xs) (Ok o) (pending t ys) × Ready t
answered c t xs ys (Some b) ready bytes_xs bytes_ys told settled = taken c t xs ys b ready bytes_xs told
answered c t xs ys None ready bytes_xs bytes_ys told settled =
    let rest = waits c t xs ys ready bytes_xs bytes_ys told in
    let known : Means (pending t ys) (unfinished t.state ys) =
    subst (Means (pending t ys)) settled (means t ys rest.1.layout rest.1.fits bytes_ys) in
    ((subst IsPartial rest.0 known.2, rest.0), rest.1)

refused_by : (c t : LengthDelimitedCodec) (xs ys held : List ℕ) (v : Cut) (e : Error) → Means held v
    → Answers c xs v (Err e) t ys → (error_kind e ≡ OutOfMemory → (x : List ℕ) × (rest : List ℕ) × HasFrame held x rest)
    × (error_kind e ≢ OutOfMemory → HasLongLength held × (t ≡ c) × (ys ≡ xs))
refused_by c t xs ys held (frame p r) e means heard = (λ _. (p, r, means), λ never. absurd (never heard.0))
refused_by c t xs ys held too_big e means heard =
    (λ m. absurd (not_data (sym heard.0 ∙ m)), λ _. (means, heard.1, heard.2))
refused_by c t xs ys held overflows e means heard = absurd means
refused_by c t xs ys held (unfinished s k) e means heard = absurd heard

pub refused : (c t : LengthDelimitedCodec) (xs ys : List ℕ) (e : Error) → Ready c → IsBytes xs
    → Decodes gives_frames c xs (Err e) t ys
    → (error_kind e ≡ OutOfMemory → (x : List ℕ) × (rest : List ℕ) × HasFrame (pending c xs) x rest)
    × (error_kind e ≢ OutOfMemory → HasLongLength (pending c xs) × (pending t ys ≡ pending c xs))
refused c t xs ys e ready bytes told =
    let known = refused_by c t xs ys (pending c xs) (cut c xs) e (means c xs ready.layout ready.fits bytes) told in
    (known.0, λ never. let same = known.1 never in (same.0, ap₂ pending same.1 same.2))
