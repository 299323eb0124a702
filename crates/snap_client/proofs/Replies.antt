-- The reply that was read determines how far the exchange came.
use Rattle.std.proofs.Common.{◌≡◌, ℕ, List, [], ◌++◌, Option, None, Result, Ok, Err, inl, inr, sym, subst}
use Rattle.std.{specs.Io.KnownBytes.Appends, specs.Io.KnownBytes.Consumes, proofs.KnownBytes.Consumes-trans}
use Rattle.snap_frame.specs.Messages.{payload, frame}
use Rattle.snap_frame.specs.{declared.request.Request.Request, declared.reply.Reply.Reply, Stream.Held}
use Rattle.snap_client.specs.declared.fault.ClientFault.TheVariants.{ConnectFailed, ReadFailed, WriteFailed, Ended}
use Rattle.snap_client.specs.declared.fault.ClientFault.TheVariants.{BadReply, NoMemory}
use Rattle.snap_client.specs.Calls.{ClientState, Answers, Reaches, Calls, client_of, talking, fault_of}
use Rattle.snap_client.specs.{declared.fault.ClientFault.ClientFault, Exchange.Hears}

module _ {R W : Type 0} (remaining : R → Option (List ℕ)) (contents : W → Option (List ℕ))
    (q : Request) (r0 r1 : R) (w0 w1 : W) (held : List ℕ) (feed : Held) (silent : held ≡ [])
    (wrote : Appends (contents w0) (contents w1) (frame (payload q)))
    (fault : Option ClientFault) where
  pub heard_fault : (f : ClientFault) → Hears (remaining r0) (remaining r1) (Err f) feed
      → Reaches remaining contents q (talking r0 w0 held) (Err f) (client_of r1 w1 feed.bytes fault)
  heard_fault ReadFailed h = (record { silent = silent; wrote = wrote; read = h.0 }, h.1)
  heard_fault Ended h = (record { silent = silent; wrote = wrote; read = h.0 }, h.1, h.2)
  heard_fault BadReply h = inr (
    h.0,
    record { silent = silent; wrote = wrote; read = h.1 },
    elim h.2 [
      | inl long ↦ inl long
      | inr said ↦ inr (said.0, said.1, said.2, inl said.3)
    ],
  )
  heard_fault NoMemory h = inr (h.0, h.1, h.2, record { silent = silent; wrote = wrote; read = h.3 })
  heard_fault WriteFailed h = absurd h
  heard_fault ConnectFailed h = absurd h

  pub heard_other : (r : Reply) → (Answers q r → ⊥) → Hears (remaining r0) (remaining r1) (Ok r) feed
      → Reaches remaining contents q (talking r0 w0 held) (Err BadReply) (client_of r1 w1 feed.bytes fault)
  heard_other r other h =
      inr (h.0, record { silent = silent; wrote = wrote; read = h.2 }, inr (h.1, feed.bytes, h.3, inr (r, h.4, other)))

-- one more piece was read
pub read_more : (a b c : Option (List ℕ)) (xs ys held : List ℕ) → Consumes a b xs → Consumes b c ys
    → held ≡ xs ++ ys → Consumes a c held
read_more a b c xs ys held one two is = subst (Consumes a c) (sym is) (Consumes-trans a b c xs ys one two)

-- a client that hasn't failed before the call
pub has_called : {R W : Type 0} (remaining : R → Option (List ℕ)) (contents : W → Option (List ℕ)) (q : Request)
    (old : ClientState R W) (r : R) (w : W) (held : List ℕ) (new : ClientState R W) (fault : Option ClientFault)
    (result : Result Reply ClientFault) → client_of r w held fault ≡ old → fault ≡ None
    → Reaches remaining contents q (talking r w held) result new → new.fault ≡ fault_of result
    → Calls remaining contents q old result new
has_called remaining contents q old r w held new fault result is going h told =
    subst (λ z. Calls remaining contents q z result new) is
    (subst (λ z. Calls remaining contents q (client_of r w held z) result new) (sym going) (h, told))
