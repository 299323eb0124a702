-- A crash at the moment at which an opening has just made its registers.
use Rattle.std.specs.Prelude.{◌≡◌, ℕ, ◌<◌, List, [], ◌∷◌, length, Some, slice_get}
use Rattle.snap_history.specs.History.{Update, Start, updates_of}
use Rattle.snap_history.specs.Pairs.{Pairs}
use Rattle.snap_register.specs.{History.starts, Setup.IsReady}
use Rattle.snap_writer.specs.Writer.{WriterState}
use Rattle.snap_writer.specs.Life.{Place, seen_at, CrashLeaves}
use Rattle.snap_restart.specs.Crash.{IsLifeFrom, AllHonest, AreOpened}
use Rattle.snap_restart.specs.{LifeCrash.Begun, LifeCrash.IsRecovered, Restarts.FollowCrash, Restarts.Restarts}
use Rattle.snap_disk.specs.declared.disk.Disk as Disk

-- h has no update of any of the n files
abbrev pub HasNone : ℕ → List Update → Type 0
HasNone n h = (i : ℕ) → i < n → updates_of i h ≡ 0

module _ {D : Type 0} (disk : Disk.Ghosts D) where
  -- each of these places is in the life of a writer of the opening before it has shown an update:
  -- before its first store, inside it, or after it
  abbrev pub ShowNothing : List (WriterState D) → List (Place D) → Type 0
  ShowNothing writers places = (i : ℕ) (p : Place D) → slice_get places i ≡ Some p
      → IsLifeFrom disk writers i p × (seen_at p ≡ [])

  -- New registers are at a moment at which nothing is shown: a crash there leaves what the files
  -- were opened with, and at most one update of each that was begun.
  abbrev pub AtOnceLaw : Type 0
  AtOnceLaw = (devices : List D) (writers : List (WriterState D)) (opened : AreOpened disk devices writers)
      → IsReady opened.plan → (places : List (Place D)) (files : List (List ℕ))
      → length places ≡ length writers → ShowNothing writers places → Pairs (λ _. CrashLeaves disk) places files
      → (h : List Update) × HasNone (length writers) h
      × IsRecovered (length writers) (starts opened.plan) h (Begun places) files

  -- And the files may be opened again after it, whatever happened to them before.
  abbrev pub OverLaw : Type 0
  OverLaw = (n : ℕ) (start : Start) (moments : List (List Update)) (devices : List D)
      (writers : List (WriterState D)) (places : List (Place D)) (nexts : List D)
      → Restarts disk n start moments devices → (opened : AreOpened disk devices writers) → AllHonest disk writers
      → IsReady opened.plan → length places ≡ length writers → ShowNothing writers places
      → FollowCrash disk places nexts → (h : List Update) × HasNone (length writers) h
      × Restarts disk n start (h ∷ moments) nexts
