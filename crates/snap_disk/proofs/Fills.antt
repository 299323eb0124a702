-- For any bytes that the model allows there is a fill that leaves them.
use Rattle.std.proofs.Common.{◌≡◌, ℕ, ◌^◌, ◌<◌, Bool, true, false, List, length, refl, sym, ◌∙◌, arith, slice_index}
use Rattle.std.specs.{Prelude.◌||◌, Prelude.if◌then◌else◌, Global.Vec}
use Rattle.std.proofs.lemmas.{Bool.or_parts, Grind.common_steps}
use Rattle.snap_disk.specs.Fills.{SomeFill, AnyCrash, AnyFailedWrite, InsideAnyWrite}
use Rattle.snap_disk.specs.{Device.in_range, Fill.fill_byte, Fill.IsFilled, declared.fill.Fill.TheVariants.At}
use denote.RawPtr.{null_ptr}

-- a vector with these items
abbrev pub vec_of : {X : Type 0} (items : List X) → length items < 2 ^ 63 → Vec X
vec_of items small = record {
  ptr = null_ptr;
  len = length items;
  cap = length items;
  alloc =
      record { memory = record { seal = tt } };
  items = items;
  ok = (refl, omega arith);
  small =
      small;
}

at_zero : (v : Vec ℕ) (p old : ℕ) → p < length v.items → fill_byte (At 0 v) p old ≡ slice_index v.items p
at_zero v p old within = grind (arith, common_steps)

-- if bytes changed at touched places only, the fill made of the new bytes leads from old to new
filled : (is_touched : ℕ → Bool) (old : List ℕ) (v : Vec ℕ) → length v.items ≡ length old
    → ((p : ℕ) → is_touched p ≡ false → slice_index v.items p ≡ slice_index old p)
    → IsFilled (At 0 v) is_touched old v.items
filled is_touched old v size elsewhere = record {
  size = size;
  each = λ p within. elim (is_touched p) as (λ b. (is_touched p ≡ b)
      → slice_index v.items p ≡ (if b then fill_byte (At 0 v) p (slice_index old p)
      else slice_index old p)) [
        | true ↦ λ touched. sym (at_zero v p (slice_index old p) (omega (arith, within, size)))
        | false ↦ λ closed. elsewhere p closed
      ] refl;
}

some_fill : (is_touched : ℕ → Bool) (old new : List ℕ) → length old < 2 ^ 63 → length new ≡ length old
    → ((p : ℕ) → is_touched p ≡ false → slice_index new p ≡ slice_index old p) → SomeFill is_touched old new
some_fill is_touched old new small size elsewhere =
    let v : Vec ℕ = vec_of new (omega (arith, small, size)) in
    record { bytes = v; same = refl; filled = filled is_touched old v size elsewhere }

pub any_crash : AnyCrash
any_crash device b small left = some_fill device.is_open device.bytes b small left.size left.elsewhere

pub any_failed_write : AnyFailedWrite
any_failed_write at n old new small is = some_fill (in_range at n) old new small is.size is.elsewhere

pub inside_any_write : InsideAnyWrite
inside_any_write at n old new b small touched left =
    let size : length new.bytes ≡ length old.bytes = touched.bytes_elsewhere.size in
    some_fill new.is_open new.bytes b (omega (arith, small, size)) (left.size
    ∙ sym size) (λ p closed.
    let before : (in_range at n p || old.is_open p) ≡ false = sym (touched.opened p) ∙ closed in
    left.elsewhere p before ∙ sym
    (touched.bytes_elsewhere.elsewhere p (or_parts (in_range at n p) (old.is_open p) before).0))

-- all laws of fills, for fill_laws
pub ruleset laws = (any_crash, any_failed_write, inside_any_write)
