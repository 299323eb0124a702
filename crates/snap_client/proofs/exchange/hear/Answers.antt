use Rattle.std.proofs.Common.{◌≡◌, ◌++◌, length, take, Ok, Err, arith, ap, inl, inr, sym, ◌∙◌, subst, length-append}
use Rattle.std.proofs.Common.{length-take}
use Rattle.std.proofs.KnownBytes.{Consumes-trans}
use Rattle.snap_frame.specs.Stream.{Held, IsBytes, IsNextReply}
use Rattle.snap_frame.{specs.declared.reply_feed.ReplyFault.TheVariants.Failed, proofs.Decode.bytes-append}
use Rattle.snap_frame.{specs.declared.frame_buffer.FrameFault.TheVariants.TooLarge, proofs.Cuts.partial_is_short}
use Rattle.snap_client.proofs.Replies.{read_more}
use Rattle.snap_client.proofs.exchange.hear.Goals as goal

pub returns-in-Err-push : goal.returns-in-Err-push
returns-in-Err-push g c = (
  c.loop-n.feed.bytes,
  take c.in-Ok.n c.read.new.buf,
  c.loop-n.invariant.partial,
  Consumes-trans _ _ _ _ _ c.loop-n.invariant.read c.in-Ok.ensures.bytes.0,
)

pub returns-in-Ok-Some : goal.returns-in-Ok-Some
returns-in-Ok-Some g c =
    let pushed = c.in-Ok-push.ensures.ok.1 in
    let said = subst (λ o. IsNextReply c.push.new.self.bytes (Ok o) c.next.new.self)
    c.in-Ok-Some.field-0-is (c.in-Ok-Some.ensures.next (ap (λ (z : Held). z.failure) pushed)) in
    let read = read_more _ _ _ _ _ c.push.new.self.bytes c.loop-n.invariant.read
    c.in-Ok.ensures.bytes.0 (ap (λ (z : Held). z.bytes) pushed) in
    (c.push.new.self.bytes, said.0, read, said.1, said.2, said.3)

pub loop-n-smaller : goal.loop-n-smaller
loop-n-smaller g c =
    let pushed = c.in-Ok-push.ensures.ok.1 in
    let next = subst (λ o. IsNextReply c.push.new.self.bytes (Ok o) c.next.new.self)
    c.in-Ok-None.field-0-is (c.in-Ok-None.ensures.next (ap (λ (z : Held). z.failure) pushed)) in
    let piece = take c.in-Ok.n c.read.new.buf in
    let held : c.next.new.self.bytes ≡ c.loop-n.feed.bytes ++ piece =
    ap (λ (z : Held). z.bytes) next.1 ∙ ap (λ (z : Held). z.bytes) pushed in
    omega (
      arith,
      partial_is_short _ c.loop-n.invariant.bytes c.loop-n.invariant.partial,
      ap length held,
      length-append c.loop-n.feed.bytes piece,
      length-take c.in-Ok.n c.read.new.buf,
      c.in-Ok.ensures.bound,
      c.in-Ok.n-test,
    )

pub loop-n-preserved : goal.loop-n-preserved
loop-n-preserved g c =
    let pushed = c.in-Ok-push.ensures.ok.1 in
    let next = subst (λ o. IsNextReply c.push.new.self.bytes (Ok o) c.next.new.self)
    c.in-Ok-None.field-0-is (c.in-Ok-None.ensures.next (ap (λ (z : Held). z.failure) pushed)) in
    let piece = take c.in-Ok.n c.read.new.buf in
    let held : c.next.new.self.bytes ≡ c.loop-n.feed.bytes ++ piece =
    ap (λ (z : Held). z.bytes) next.1 ∙ ap (λ (z : Held). z.bytes) pushed in
    record {
      going = ap (λ (z : Held). z.failure) next.1;
      partial = rw (ap (λ (z : Held). z.bytes) next.1) next.0;
      bytes = subst IsBytes (sym held) (bytes-append _ piece c.loop-n.invariant.bytes c.all_bytes.ensures);
      read = read_more _ _ _ _ _ _ c.loop-n.invariant.read c.in-Ok.ensures.bytes.0 held;
    }

pub returns-in-Err-BadReply : goal.returns-in-Err-BadReply
returns-in-Err-BadReply g c =
    let pushed = c.in-Ok-push.ensures.ok.1 in
    let said = subst (λ e. IsNextReply c.push.new.self.bytes (Err e) c.next.new.self) c.in-Err-BadReply.field-0-is
    (c.in-Err-BadReply.ensures.next (ap (λ (z : Held). z.failure) pushed)) in
    let read = read_more _ _ _ _ _ c.push.new.self.bytes c.loop-n.invariant.read
    c.in-Ok.ensures.bytes.0 (ap (λ (z : Held). z.bytes) pushed) in
    (c.push.new.self.bytes, read, inr (said.0, c.next.new.self.bytes, said.1, said.2))

pub returns-in-Err-Failed-TooLarge : goal.returns-in-Err-Failed-TooLarge
returns-in-Err-Failed-TooLarge g c =
    let pushed = c.in-Ok-push.ensures.ok.1 in
    let here = c.in-Err-Failed-TooLarge in
    let why : here.field-0-0 ≡ TooLarge = rw here.field-0-is at here.field-0-0-is in
    let said = subst (λ e. IsNextReply c.push.new.self.bytes (Err e) c.next.new.self) (here.field-0-is ∙ ap Failed why)
    (here.ensures.next (ap (λ (z : Held). z.failure) pushed)) in
    let read = read_more _ _ _ _ _ c.push.new.self.bytes c.loop-n.invariant.read
    c.in-Ok.ensures.bytes.0 (ap (λ (z : Held). z.bytes) pushed) in
    (c.push.new.self.bytes, read, inl said.0)

pub returns-in-Err-Failed-NoMemory : goal.returns-in-Err-Failed-NoMemory
returns-in-Err-Failed-NoMemory g c = (
  c.loop-n.feed.bytes,
  take c.in-Ok.n c.read.new.buf,
  c.loop-n.invariant.partial,
  Consumes-trans _ _ _ _ _ c.loop-n.invariant.read c.in-Ok.ensures.bytes.0,
)
