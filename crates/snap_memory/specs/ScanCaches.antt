-- The cache of a scanner.
use Rattle.std.specs.Prelude.{◌≡◌, ℕ, ◌<◌, List, [], length, Some, Option, slice_get, slice_index, get_or}
use Rattle.snap_history.specs.{History.Update, History.IsBeginning, Limits.IsShort}
use Rattle.snap_register.specs.Rule.{segments}
use Rattle.snap_register.specs.Seat.{Known, looked, number_in, value_in}
use Rattle.snap_scan.specs.{Sets.Names, Values.pair_of, declared.limits.TheConstants.MAX_SEGMENTS}
use Rattle.snap_scan.specs.declared.segment_value.SegmentValue.{SegmentValue}
use Rattle.snap_memory.specs.declared.scan_cache.{ScanCache.ScanCache, ScanCache.TheVariants.Absent}
use Rattle.snap_memory.specs.declared.scan_cache.{ScanCache.TheVariants.Kept, ScanSource.ScanSource}
use Rattle.snap_memory.specs.declared.scan_cache.{ScanSource.TheVariants.Looked, ScanSource.TheVariants.Viewed}

-- segment i had this number and value after a beginning of what the seat has seen
pub record WasSeen (seat : Known) (i : ℕ) (x : ℕ × List ℕ) : Type 0 where
  pub part : List Update
  pub within : IsBeginning part seat.seen
  pub number_is : x.0 ≡ number_in seat part i
  pub value_is : x.1 ≡ value_in seat part i

-- a number and a value that a scan may return: they were seen, and the value isn't too long
abbrev pub IsAnswerable : Known → ℕ → ℕ × List ℕ → Type 0
IsAnswerable seat i x = WasSeen seat i x × IsShort x.1

-- each cached entry may be returned
abbrev pub AreKept : Known → List (Option SegmentValue) → Type 0
AreKept seat cache = (i : ℕ) (x : SegmentValue) → slice_get cache i ≡ Some (Some x) → IsAnswerable seat i (pair_of x)

-- the cache has the seat's size, and its entries were seen
abbrev pub Fits : Known → ScanCache → Type 0
Fits seat Absent = Unit {0}
Fits seat (Kept cache) = (length cache.items ≡ segments seat.plan) × AreKept seat cache.items

-- the number found for segment i
abbrev pub number_of : ScanSource → ℕ → ℕ
number_of (Looked numbers) i = slice_index numbers.now i
number_of (Viewed view) i = (get_or view.now i (0, [])).0

-- there is a place for segment i
abbrev pub HasPlace : ScanSource → ℕ → Type 0
HasPlace (Looked numbers) i = i < MAX_SEGMENTS
HasPlace (Viewed view) i = i < length view.now

-- the number is that of the last look at segment i, or the entry in the view was seen
abbrev pub IsFoundAt : Known → ScanSource → ℕ → Type 0
IsFoundAt seat (Looked numbers) i = looked seat i ≡ Some (slice_index numbers.now i)
IsFoundAt seat (Viewed view) i = WasSeen seat i (get_or view.now i (0, []))

-- what was found for all named segments
abbrev pub IsFound : ℕ → Known → ScanSource → Type 0
IsFound set seat found = (i : ℕ) → i < segments seat.plan → Names set i → HasPlace found i × IsFoundAt seat found i

-- the cached entry of segment i may be returned
abbrev pub IsKeptOf : Known → ℕ → Option SegmentValue → Type 0
IsKeptOf seat i kept = (x : SegmentValue) → kept ≡ Some x → IsAnswerable seat i (pair_of x)

-- the entry has the number found for segment i, and may be returned
abbrev pub IsEntry : Known → ScanSource → ℕ → ℕ × List ℕ → Type 0
IsEntry seat found i x = (x.0 ≡ number_of found i) × IsAnswerable seat i x

-- the list has an entry for each of these segments, in order
pub record AreEntries (named : List ℕ) (seat : Known) (found : ScanSource)
    (values : List (ℕ × List ℕ)) : Type 0 where
  pub count : length values ≡ length named
  pub each : (p i : ℕ) → slice_get named p ≡ Some i
      → (x : ℕ × List ℕ) × (slice_get values p ≡ Some x) × IsEntry seat found i x
