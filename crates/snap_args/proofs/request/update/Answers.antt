use Rattle.std.proofs.Common.{◌≢◌, ◌≤◌, List, ℕ, length, rules}
use Rattle.snap_order.specs.Hex.{IsHex}
use Rattle.snap_order.specs.Messages.{max_payload, payload}
use Rattle.snap_order.specs.request.Request.{Request}
use Rattle.snap_args.proofs.Requests.{no_number, no_segment, no_value}
use Rattle.snap_args.specs.{Requests.IsUpdateOf, declared.fault.WordFault.TheVariants.Memory}
use Rattle.snap_args.proofs.request.update.Goals as goal

pub returns-in_err-segment : goal.returns-in_err-segment
returns-in_err-segment c =
    let none : c.in_err-segment.field-0.0 ≢ Memory → (r : Request) → (length (payload r) ≤ max_payload)
    × IsUpdateOf c.args.segment.now c.args.number.now c.args.value.now r → ⊥ =
    λ other r is. no_segment c.args.segment.now c.args.number.now c.args.value.now (c.in_err-segment.ensures other)
    r is.1 in
    search rules

pub returns-in_err-number : goal.returns-in_err-number
returns-in_err-number c =
    let none : c.in_err-number.field-0.0 ≢ Memory → (r : Request) → (length (payload r) ≤ max_payload)
    × IsUpdateOf c.args.segment.now c.args.number.now c.args.value.now r → ⊥ =
    λ other r is. no_number c.args.segment.now c.args.number.now c.args.value.now (c.in_err-number.ensures other)
    r is.1 in
    search rules

pub returns-in-None : goal.returns-in-None
returns-in-None c =
    let none : (bytes : List ℕ) → IsHex c.args.value.now bytes → ⊥ =
    rw (c.in-None.is, c.as_bytes.ensures.value) at c.in_ok-bytes.ensures in
    λ other r is. no_value c.args.segment.now c.args.number.now c.args.value.now none r is.1
