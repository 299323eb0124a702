-- A fill for each device, whatever a crash left of them.
-- each device is short enough for an index
use Rattle.snap_world.specs.Devices.{AreRefilled, Changes, IsRefilled}
use Rattle.snap_world.specs.Crashes.{CrashMayLeave, SomeCrashLeaves, AnyCrash, CrashInsideAnyWrite, AnyFault}
use Rattle.std.proofs.Common.{rules, ◌≡◌, ℕ, zero, suc, ◌^◌, ◌<◌, List, [], ◌∷◌, length, map, Some, slice_get}
use Rattle.std.proofs.Common.{slice_set, refl, sym, ◌∙◌, ap, subst, arith}
use Rattle.snap_disk.specs.Device.{Device, in_range, opened, IsTouched, IsUnsynced}
use Rattle.snap_disk.proofs.Fills.{vec_of, any_crash, any_failed_write}
use Rattle.snap_world.specs.{Surface.devices_of, declared.drive.Drive.Drive, declared.world.World.World}
use Rattle.snap_world.specs.{inside.Drives.device_of}
use Rattle.snap_world.proofs.{Elements.map_element, Elements.each-set}
use Rattle.std.specs.{Global.Vec}
use Rattle.std.proofs.{lemmas.Bool.or_parts, lemmas.Option.slice_get_within, lemmas.Option.same_Some}
use Rattle.std.proofs.{lemmas.List.length-set, lemmas.List.length-map}
use Rattle.snap_history.proofs.{Lists.get-set_same, Lists.get-set_other}
use Rattle.snap_disk.specs.{declared.fill.Fill.TheVariants.At, declared.fill.Fill.Fill, Fills.SomeFill}

abbrev pub AllSmall : List Device → Type 0
AllSmall devices = (i : ℕ) (d : Device) → slice_get devices i ≡ Some d → length d.bytes < 2 ^ 63

refilled : (old new : Device) → length old.bytes < 2 ^ 63 → IsUnsynced old new → (fill : Fill) × IsRefilled fill old new
refilled old new small is =
    let f : SomeFill old.is_open old.bytes new.bytes = any_crash old new.bytes small is.left in
    (At 0 f.bytes, record { left = is; filled = f.filled })

cons_refilled : (fill : Fill) (fills : List Fill) (d e : Device) (old left : List Device) → IsRefilled fill d e
    → AreRefilled fills old left → (i : ℕ) (a b : Device) → slice_get (d ∷ old) i ≡ Some a
    → slice_get (e ∷ left) i ≡ Some b → (f : Fill) → slice_get (fill ∷ fills) i ≡ Some f → IsRefilled f a b
cons_refilled fill fills d e old left here rest zero a b ea eb f ef = search (rules, same_Some)
cons_refilled fill fills d e old left here rest (suc i) a b ea eb f ef = rest.each i a b ea eb f ef

-- the fills, one for each device
fills_for : (old left : List Device) → AllSmall old → CrashMayLeave old left → (fills : List Fill)
    × (length fills ≡ length old) × AreRefilled fills old left
fills_for [] left small may = ([], refl, record { size = may.size; each = λ i a b ea eb fill ef. cc })
fills_for (d ∷ old) [] small may = absurd (omega (arith, may.size))
fills_for (d ∷ old) (e ∷ left) small may =
    let here = refilled d e (small 0 d refl) (may.each 0 d e refl refl) in
    let rest = fills_for old left (λ i. small (suc i))
    (record { size = omega (arith, may.size); each = λ i. may.each (suc i) }) in (
      here.0 ∷ rest.0,
      ap suc rest.1,
      record { size = may.size; each = cons_refilled here.0 rest.0 d e old left here.1 rest.2 },
    )

crash_of : (devices : List Device) → length devices < 2 ^ 63 → AllSmall devices
    → (left : List Device) → CrashMayLeave devices left → SomeCrashLeaves devices left
crash_of devices few small left may =
    let f = fills_for devices left small may in
    record { fills = vec_of f.0 (omega (arith, f.1, few)); one_each = f.1; filled = f.2 }

-- whatever a crash inside a write leaves of a device, one right after the write leaves
inside : (at n : ℕ) (old new left : Device) → IsTouched at n old new
    → IsUnsynced (opened at n old) left → IsUnsynced new left
inside at n old new left touched is = search (rules, or_parts)

module _ (devices : List Device) (w at n : ℕ) (device : Device) (there : slice_get devices w ≡ Some device) where
  -- one device is written
  after_write : (new : Device) (left : List Device) → IsTouched at n device new
      → CrashMayLeave (slice_set devices w (opened at n device)) left → CrashMayLeave (slice_set devices w new) left
  after_write new left touched may =
      let within : w < length devices = slice_get_within devices w device there in record {
        size = length-set devices w new ∙ sym (length-set devices w (opened at n device)) ∙ may.size;
        each = λ i a b ea eb. each-set (λ j c. (d : Device) → slice_get left j ≡ Some d
            → IsUnsynced c d) devices w new (λ d ed. inside at n device new d touched
            (may.each w (opened at n device) d (get-set_same devices w (opened at n device) within) ed))
            (λ j c ne ec d ed. may.each j c d (get-set_other devices w j (opened at n device) ne ∙ ec) ed) i a ea b eb;
      }

  small_after : (new : Device) → IsTouched at n device new → AllSmall devices → AllSmall (slice_set devices w new)
  small_after new touched small = each-set (λ j d. length d.bytes < 2 ^ 63) devices w new
      (omega (arith, touched.bytes_elsewhere.size, small w device there)) (λ j d ne. small j d)

crash_inside_of : (devices : List Device) → length devices < 2 ^ 63 → AllSmall devices → (w at n : ℕ) (device : Device)
    (after left : List Device) → slice_get devices w ≡ Some device → Changes w (IsTouched at n) devices after
    → CrashMayLeave (slice_set devices w (opened at n device)) left → SomeCrashLeaves after left
crash_inside_of devices few small w at n device after left there change may =
    let same : change.before ≡ device = same_Some _ _ (sym change.there ∙ there) in
    let touched : IsTouched at n device change.after = subst (λ d. IsTouched at n d change.after) same change.change in
    let size : length (slice_set devices w change.after) ≡ length devices = length-set devices w change.after in
    subst (λ l. SomeCrashLeaves l left) (sym change.others) (search (rules, crash_of, small_after, after_write))

fault_of : (devices : List Device) → AllSmall devices → AnyFault devices
fault_of devices small = record {
  write = λ w at n old new there is. (
      let f : SomeFill (in_range at n) old.bytes new.bytes =
      any_failed_write at n old.bytes new.bytes (small w old there) is.bytes_elsewhere in
      (At 0 f.bytes, record { touched = is; filled = f.filled }));
  sync = λ w old new there is. refilled old new (small w old there) is;
}

-- the devices of a world are short enough, since each is an image in memory

small_of : (drives : List Drive) → AllSmall (map device_of drives)
small_of drives i device there = search (rules, map_element)

few_of : (drives : Vec Drive) → length (map device_of drives.items) < 2 ^ 63
few_of drives = omega (arith, length-map drives.items device_of, drives.ok.0, drives.ok.1, drives.small)

pub any_crash_of : (w : World) → AnyCrash (devices_of w)
any_crash_of w = record { leaves = crash_of (devices_of w) (few_of w.node.drives) (small_of w.node.drives.items) }

pub crash_inside_any_write_of : (w : World) → CrashInsideAnyWrite (devices_of w)
crash_inside_any_write_of w = search (rules, crash_inside_of, few_of, small_of)

pub any_fault_of : (w : World) → AnyFault (devices_of w)
any_fault_of w = fault_of (devices_of w) (small_of w.node.drives.items)

-- the three clauses of `World::run`
pub ruleset no_bytes_left_out = (any_crash_of, crash_inside_any_write_of, any_fault_of)
