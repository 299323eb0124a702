-- The limits of an order's fields.
use Rattle.std.specs.Prelude.{◌≡◌, ◌⊎◌, Bool, false, true, ℕ, ◌+◌, ◌^◌, ◌<◌, ◌≤◌, List, length, All, IfSome}
use Rattle.snap_frame.specs.Messages.{max_payload, payload, IsAskable}
use Rattle.snap_frame.specs.declared.request.Request.{Request}
use Rattle.snap_order.specs.Limits.{MAX_COUNT, MAX_SCANNERS, MAX_TRIES, MAX_UPDATE_VALUE, SLOT_COUNT}
use Rattle.snap_order.specs.declared.order.TheConstants.{MAX_ADDRESSES, MAX_CLIENTS, MAX_EVERY, MAX_IDLE, MAX_TIMEOUT}
use Rattle.snap_order.specs.declared.order.TheConstants.{MODE_BITS}
use Rattle.snap_order.specs.declared.order.FileOrder.TheVariants.{Format, Put, Get, Check, Slot}
use Rattle.snap_order.specs.declared.order.{Order.Order, FileOrder.FileOrder, ServeOptions.ServeOptions}
use Rattle.snap_order.specs.declared.order.{CallOptions.CallOptions, DumpOptions.DumpOptions, LoadOptions.LoadOptions}
use Rattle.snap_order.specs.declared.order.{WatchOptions.WatchOptions, OutputFormat.TheVariants.Lines}
use Rattle.snap_order.specs.declared.order.{CallRequest.CallRequest, Source.Source}
use Rattle.snap_frame.specs.declared.request.Request.TheVariants as request
use Rattle.snap_order.specs.declared.order.Order.TheVariants as order
use Rattle.snap_order.specs.declared.order.CallRequest.TheVariants as question
use Rattle.snap_order.specs.declared.order.Source.TheVariants as source

-- segment `index` is one of `count`, and a server can have `count` segments
abbrev pub IsPlace : ℕ → ℕ → Type 0
IsPlace index count = (index < count) × (count ≤ MAX_COUNT)

-- its place is one of a server's, and its slot one of a file's
abbrev pub IsFileWithinLimits : FileOrder → Type 0
IsFileWithinLimits (Format file index count) = IsPlace index count
IsFileWithinLimits (Put file index count) = IsPlace index count
IsFileWithinLimits (Get file index count) = IsPlace index count
IsFileWithinLimits (Check file is_json) = Unit {0}
IsFileWithinLimits (Slot file slot) = slot < SLOT_COUNT

-- n is 1 to `most`
abbrev pub IsOneTo : ℕ → ℕ → Type 0
IsOneTo most n = (1 ≤ n) × (n ≤ most)

-- its addresses and scanners are at least one and within their limits, and so is each limit that is given
pub record KeepsLimits (s : ServeOptions) : Type 0 where
  pub addresses : IsOneTo MAX_ADDRESSES (length s.addresses.items)
  pub mode : s.socket_mode ≤ MODE_BITS
  pub scanners : 1 ≤ s.scanners
  pub few_scanners : s.scanners ≤ MAX_SCANNERS
  pub clients : IfSome s.clients (IsOneTo MAX_CLIENTS)
  pub idle : IfSome s.idle (IsOneTo MAX_IDLE)

-- it also has files, and as many as a server may have at most
pub record IsServable (s : ServeOptions) : Type 0 where
  pub files : 1 ≤ length s.files.items
  pub few_files : length s.files.items ≤ MAX_COUNT
  pub limits : KeepsLimits s

-- The request that is sent first: for a put the one for the current number.
abbrev pub request_of : CallRequest → Request
request_of (question.Request r) = r
request_of question.Health = request.Status
request_of (question.Get segment) = request.Part (record { bits = 2 ^ segment })
request_of (question.Put p) = request.Status

-- a value given as an argument fits an update
abbrev pub FitsUpdate : Source → Type 0
FitsUpdate source.Input = Unit {0}
FitsUpdate (source.Words bytes) = length bytes ≤ MAX_UPDATE_VALUE

-- a get's segment fits a set, a put's value fits an update, and its `after` has a next number
abbrev pub IsWithin : CallRequest → Type 0
IsWithin (question.Request r) = Unit {0}
IsWithin question.Health = Unit {0}
IsWithin (question.Get segment) = segment < MAX_COUNT
IsWithin (question.Put p) = FitsUpdate p.value × IfSome p.after (λ k. k + 1 < 2 ^ 64)

-- the reply lists segments
abbrev pub lists_segments : CallRequest → Bool
lists_segments (question.Request (request.Update i k bytes)) = false
lists_segments (question.Request r) = true
lists_segments question.Health = true
lists_segments asked = false

-- its request fits a frame and is a valid one, its tries and times are within their limits, and a
-- reply that lists no segments is printed in lines of hexadecimal text
pub record IsCallable (c : CallOptions) : Type 0 where
  pub fits : length (payload (request_of c.question)) ≤ max_payload
  pub askable : IsAskable (request_of c.question)
  pub within : IsWithin c.question
  pub tries : 1 ≤ c.tries
  pub few_tries : c.tries ≤ MAX_TRIES
  pub wait : IfSome c.wait (IsOneTo MAX_TIMEOUT)
  pub timeout : IfSome c.timeout (IsOneTo MAX_TIMEOUT)
  pub layout : (c.layout ≡ Lines) ⊎ (lists_segments c.question ≡ true)

-- the tries and times are within their limits
pub record IsDumpable (d : DumpOptions) : Type 0 where
  pub tries : 1 ≤ d.tries
  pub few_tries : d.tries ≤ MAX_TRIES
  pub wait : IfSome d.wait (IsOneTo MAX_TIMEOUT)
  pub timeout : IfSome d.timeout (IsOneTo MAX_TIMEOUT)

-- each named segment can be one of a server's, and the time between two polls is within its limits
pub record IsWatchable (w : WatchOptions) : Type 0 where
  pub segments : All (λ s. s < MAX_COUNT) w.segments.items
  pub every : IfSome w.every (IsOneTo MAX_EVERY)

-- the count is one of segments, if it is given
abbrev pub IsLoadable : LoadOptions → Type 0
IsLoadable l = IfSome l.count (IsOneTo MAX_COUNT)

abbrev pub IsWithinLimits : Order → Type 0
IsWithinLimits (order.File o) = IsFileWithinLimits o
IsWithinLimits (order.Migrate m) = IsPlace m.index m.count
IsWithinLimits (order.Init f) = IsOneTo MAX_COUNT f.count
IsWithinLimits (order.Doctor e) = Unit {0}
IsWithinLimits (order.Serve s) = IsServable s
IsWithinLimits (order.ServeFolder folder s) = (length s.files.items ≡ 0) × KeepsLimits s
IsWithinLimits (order.Call c) = IsCallable c
IsWithinLimits (order.Watch w) = IsWatchable w
IsWithinLimits (order.Dump d) = IsDumpable d
IsWithinLimits (order.Load l) = IsLoadable l
IsWithinLimits order.Script = Unit {0}

-- the path of the order's file
abbrev pub file_of : FileOrder → List ℕ
file_of (Format file index count) = file.now
file_of (Put file index count) = file.now
file_of (Get file index count) = file.now
file_of (Check file is_json) = file.now
file_of (Slot file slot) = file.now
