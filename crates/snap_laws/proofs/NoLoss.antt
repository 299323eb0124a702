-- One life continues another, and loses nothing that was stored.
use Rattle.std.proofs.Common.{◌≡◌, List, [], ◌∷◌, ◌++◌, length, Option, Some, refl, sym}
use Rattle.std.specs.Option.{option_to_list}
use Rattle.snap_memory.proofs.Popped.{last_has}
use Rattle.snap_writer.specs.{Writer.WriterState, Life.Lived, Life.HasLived, Life.IsWriterOf}
use Rattle.snap_restart.specs.{LifeDurability.Keeps, LifeDurability.StaysLaw, Crash.AreOpened}
use Rattle.snap_restart.proofs.{Placed.same_file, LifeDurability.lived_is}
use Rattle.snap_laws.specs.NoLoss.{IsAWriter, LosesNothing}
use Rattle.snap_disk.specs.declared.disk.Disk as Disk

module _ {D : Type 0} (disk : Disk.Ghosts D) where
  lived_on : (a m z : WriterState D) (first second : List (WriterState D)) → Lived disk a first m
      → Lived disk m second z → Lived disk a (first ++ second) z
  lived_on a m z [] second one other = rw one at other
  lived_on a m z (b ∷ first) second one other = (one.0, lived_on b m z first second one.1 other)

  pub loses_nothing : (a m z : WriterState D) → StaysLaw disk → IsAWriter disk a → HasLived disk a m → HasLived disk m z
      → LosesNothing disk a z
  loses_nothing a m z law is first second hon b left =
      let all = lived_on a m z first.0 second.0 first.1 second.1 in
      let stays = law is.0 is.1 is.2 a z (first.0 ++ second.0) is.3 all hon in
      let k : Keeps is.1 is.2 a (first.0 ++ second.0) b = stays.any_time.each b left in
      (k.number, k.value, same_file (sym is.3.index_is) (sym is.3.count_is) refl refl k.file, k.no_less, k.same_value)

  -- the last writer of an opening is a writer, and stays one
  pub is_a_writer : (devices : List D) (writers mid : List (WriterState D)) (popped : Option (WriterState D))
      (w z : WriterState D) → AreOpened disk devices writers → writers ≡ mid ++ option_to_list popped → popped ≡ Some w
      → HasLived disk w z → IsAWriter disk z
  is_a_writer devices writers mid popped w z opened all some lived =
      let n = length writers in
      let is = last_has (λ i x. IsWriterOf disk opened.plan n i x) writers mid popped w all some opened.writers_are in
      (opened.plan, n, length mid, lived_is disk opened.plan n (length mid) w z lived.0 is lived.1)
