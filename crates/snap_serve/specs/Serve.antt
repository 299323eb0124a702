-- How a server ends, and what it has printed by then.
use Rattle.std.specs.Prelude.{◌≡◌, ◌≢◌, ◌⊎◌, ℕ, Bool, true, List, ◌++◌, flat_map, length, map, slice_get, Option, Some}
use Rattle.std.specs.Prelude.{None, Result, Ok, Err, codes}
use Rattle.std.specs.{Fmt.decimal, Io.KnownBytes.Appends, Io.KnownBytes.Keeps}
use Rattle.snap_disk.specs.declared.refusal.Refusal.{Refusal}
use Rattle.snap_restart.specs.Opened.{IsOpened, IsStopped, recovered}
use Rattle.snap_restart.specs.Crash.{AreOpened, StayKept}
use Rattle.snap_restart.specs.{Pairs.Pairs, Report.report_text, declared.report.Report.Report}
use Rattle.snap_writer.specs.{Segment.SegmentState, Writer.WriterState}
use Rattle.snap_order.specs.Streams.{AppendsBeginning, Complains, NamesFile, SaysLines, refused_line}
use Rattle.snap_order.specs.declared.{order.ServeOptions.ServeOptions, status.Exit.Exit, status.Status.Status}
use Rattle.snap_server.specs.{Deals.GivesSoMany, Endpoints.endpoint_text, declared.listen.Endpoint.Endpoint}
use Rattle.snap_server.specs.{declared.listen.Accepted.Accepted, declared.listen.AcceptFault.AcceptFault}
use Rattle.snap_server.specs.{declared.fault.RunFault.RunFault, declared.fault.ServerFault.ServerFault}
use Rattle.snap_server.specs.declared.unix.BindFault.{BindFault}
use Rattle.snap_serve.specs.declared.fault.HostFault.TheVariants.{Refused, NoMemory, Address, Output, Server}
use Rattle.snap_serve.specs.declared.{bind.ListenFault.ListenFault, fault.HostFault.HostFault}
use Rattle.snap_disk.specs.declared.disk.Disk as Disk
use Rattle.snap_disk.specs.declared.refusal.Refusal.TheVariants as refusal
use Rattle.snap_order.specs.declared.status.Status.TheVariants as status
use Rattle.snap_server.specs.declared.listen.Listen as Listen
use Rattle.snap_server.specs.declared.listen.LocalAddress as LocalAddress
use Rattle.snap_server.specs.declared.fault.RunFault.TheVariants as run
use Rattle.snap_server.specs.declared.fault.ServerFault.TheVariants as faults
use Rattle.snap_server.specs.declared.unix.BindFault.TheVariants as fault_of_bind
use Rattle.snap_serve.specs.declared.bind.Bind as Bind

-- it ends with the number of connections that were accepted, or early
abbrev pub End : Type 0
End = Result ℕ HostFault

abbrev pub status_of : HostFault → Status
status_of (Refused segment why len) = status.Refused
status_of NoMemory = status.Refused
status_of (Address unbound) = status.Failed
status_of (Output error) = status.Failed
status_of (Server fault) = status.Failed

abbrev pub status_at : End → Status
status_at (Ok k) = status.Done
status_at (Err failure) = status_of failure

-- the lines that are printed
abbrev pub listening_line : Endpoint → List ℕ
listening_line endpoint = codes "listening " ++ (endpoint_text endpoint ++ codes "\n")

-- a line for each address at which it listens
abbrev pub listening_text : List Endpoint → List ℕ
listening_text places = flat_map listening_line places

abbrev pub served_line : ℕ → List ℕ
served_line k = codes "served " ++ (decimal k ++ codes "\n")

-- the text up to the moment at which it serves
abbrev pub opening_text : Report → List Endpoint → List ℕ
opening_text report places = report_text report ++ listening_text places

abbrev pub whole_text : Report → List Endpoint → ℕ → List ℕ
whole_text report places k = opening_text report places ++ served_line k

-- ---- its devices (`Disk.Ghosts D` has what `Disk` says about a device of type D)

-- Each of the devices was opened, and the report says what was found. Whatever is served then, a crash of all devices
-- at any moment is recovered as one memory (`AreOpened`).
pub record IsReportOf {D : Type 0} (disk : Disk.Ghosts D) (devices : List D) (report : Report)
    : Type 0 where
  pub segments : List (SegmentState D)
  pub opened : Pairs (IsOpened disk (length devices)) devices segments
  pub says : report.segments.items ≡ map recovered segments
  pub writers : List (WriterState D)
  pub theirs : segments ≡ map (λ (w : WriterState D). w.segment) writers
  pub crash : AreOpened disk devices writers

-- this is the length of this segment's device, if there is one
abbrev pub IsLengthAt : {D : Type 0} (disk : Disk.Ghosts D) (devices : List D) (segment len : ℕ) → Type 0
IsLengthAt {D} disk devices segment len = (d : D) → slice_get devices segment ≡ Some d
    → len ≡ length (disk.device d).bytes

-- The opening of these devices was refused at this segment, whose device has `len` bytes. A crash after it leaves only
-- what a crash before it could.
pub record IsStopOf {D : Type 0} (disk : Disk.Ghosts D) (devices : List D) (segment : ℕ)
    (why : Refusal) (len : ℕ) : Type 0 where
  -- the devices as they were returned
  pub news : List D
  pub stopped : IsStopped disk devices news why segment
  pub kept : StayKept disk devices news
  pub len_is : IsLengthAt disk news segment len

-- ---- its listener

-- the addresses at which it is to listen, in order
abbrev pub addresses_of : ServeOptions → List (List ℕ)
addresses_of order = map (λ address. address.now) order.addresses.items

-- a listener that was bound, with the addresses that it names
abbrev pub ListensAt : {L : Type 0} (bound : L → Type 0) (is_at : L → List Endpoint → Type 0) → L
    → List Endpoint → Type 0
ListensAt bound is_at l places = bound l × is_at l places

-- k connections were accepted from this listener, one after another
abbrev pub HaveCome : {L : Type 0} → (accepts : L → Result Accepted AcceptFault → L → Type 0) → L → ℕ → Type 0
HaveCome {L} accepts l k = (last : L) × GivesSoMany accepts k l last

-- The site of a server: what is known of the listener that it may get.
pub record Site (L : Type 0) : Type 1 where
  -- this listener may be the server's, at these addresses
  pub listens_at : L → List Endpoint → Type 0
  -- why it may get no listener
  pub refuses : ListenFault → Type 0
  -- this listener may fail to accept
  pub may_fail : L → Type 0
  -- this many connections were accepted from this listener
  pub gave : L → ℕ → Type 0

-- the site of these addresses, if `binder` binds them
abbrev pub site_at : {B L : Type 0} → Bind.Ghosts B L → LocalAddress.Ghosts L → Listen.Ghosts L
    → (binder : B) (addresses : List (List ℕ)) → Site L
site_at bind locate listen binder addresses = record {
  listens_at = ListensAt (bind.binds binder addresses) locate.is_at;
  refuses = bind.refuses binder addresses;
  may_fail = listen.refuses;
  gave = HaveCome listen.accepts;
}

-- ---- what it has printed

-- At most a beginning of the text was printed: no addresses but those of the server's listener, and no number but the
-- one that was asked for and was accepted from it.
abbrev pub IsCutShort : {L : Type 0} (site : Site L) (connections : Option ℕ) → Report
    → (out out' : Option (List ℕ)) → Type 0
IsCutShort {L} site connections report out out' = AppendsBeginning out out' (report_text report)
    ⊎ ((l : L) × (places : List Endpoint) × site.listens_at l places
    × (AppendsBeginning out out' (opening_text report places) ⊎ ((k : ℕ) × (connections ≡ Some k) × site.gave l k
    × AppendsBeginning out out' (whole_text report places k))))

-- memory ran out before there was a listener
abbrev pub IsWithoutMemory : {L : Type 0} (site : Site L) → Type 0
IsWithoutMemory site = (unbound : ListenFault) × (unbound.why ≡ fault_of_bind.NoMemory) × site.refuses unbound

-- if memory runs out no line is truncated, and the last one isn't printed
abbrev pub IsStarved : {L : Type 0} (site : Site L) → Report → (out out' : Option (List ℕ)) → Type 0
IsStarved {L} site report out out' = Keeps out out' ⊎ ((IsWithoutMemory site × Appends out out' (report_text report))
    ⊎ ((l : L) × (places : List Endpoint) × site.listens_at l places
    × (Appends out out' (report_text report) ⊎ Appends out out' (opening_text report places))))

-- The text of a server whose threads or sockets failed: it printed `listening` once it had all that it serves with, and
-- not before.
abbrev pub IsFaulted : Report → List Endpoint → (out out' : Option (List ℕ)) → ServerFault → Type 0
IsFaulted report places out out' faults.AcceptFailed = Appends out out' (opening_text report places)
IsFaulted report places out out' faults.PollFailed = Appends out out' (opening_text report places)
IsFaulted report places out out' faults.NoPoll = Appends out out' (report_text report)
IsFaulted report places out out' faults.NoThread = Appends out out' (report_text report)
IsFaulted report places out out' faults.NoMemory = ⊥

-- ---- how it ends

-- a server that has served k connections
pub record HasServed {L : Type 0} (site : Site L) (connections : Option ℕ) (report : Report)
    (out out' : Option (List ℕ)) (k : ℕ) : Type 0 where
  pub listener : L
  pub places : List Endpoint
  -- the listener is the server's, at these addresses
  pub is_there : site.listens_at listener places
  -- k connections were asked for
  pub asked : connections ≡ Some k
  -- k connections were accepted from it
  pub came : site.gave listener k
  -- all of the text was printed
  pub text : Appends out out' (whole_text report places k)

-- a server whose threads or sockets failed
pub record HasFailed {L : Type 0} (site : Site L) (report : Report) (out out' : Option (List ℕ))
    (fault : ServerFault) : Type 0 where
  pub listener : L
  pub places : List Endpoint
  -- the listener is the server's, at these addresses
  pub is_there : site.listens_at listener places
  -- accepting failed only if the listener may fail
  pub deaf : fault ≡ faults.AcceptFailed → site.may_fail listener
  -- the text that is printed before such a fault was printed
  pub text : IsFaulted report places out out' fault

-- The server opened its files and then ended with this result. `out` and `out'` are what the writer held before and
-- after.
abbrev pub EndsServing : {L : Type 0} (site : Site L) (connections : Option ℕ) → Report
    → (out out' : Option (List ℕ)) → End → Type 0
EndsServing site connections report out out' (Ok k) = HasServed site connections report out out' k
EndsServing site connections report out out' (Err (Refused segment why len)) = ⊥
EndsServing site connections report out out' (Err NoMemory) = IsStarved site report out out'
EndsServing site connections report out out' (Err (Address unbound)) =
    site.refuses unbound × Appends out out' (report_text report)
EndsServing site connections report out out' (Err (Output error)) = IsCutShort site connections report out out'
EndsServing site connections report out out' (Err (Server fault)) = HasFailed site report out out' fault

-- The whole server, with the opening of its devices, ended with this result.
abbrev pub EndsHost : {D L : Type 0} (disk : Disk.Ghosts D) (devices : List D) (site : Site L)
    (connections : Option ℕ) (out out' : Option (List ℕ)) → End → Type 0
EndsHost disk devices site connections out out' (Err (Refused segment why len)) =
    IsStopOf disk devices segment why len × Keeps out out'
EndsHost disk devices site connections out out' end = (report : Report) × IsReportOf disk devices report
    × EndsServing site connections report out out' end

-- ---- the steps

-- these lines have the addresses of the listener
abbrev pub IsNamed : {L : Type 0} (site : Site L) → L → (lines : List ℕ) → Type 0
IsNamed site l lines = (places : List Endpoint) × site.listens_at l places × (lines ≡ listening_text places)

-- a text was not printed whole
abbrev pub PrintFails : (out out' : Option (List ℕ)) (text : List ℕ) → HostFault → Type 0
PrintFails out out' text (Output error) = AppendsBeginning out out' text
PrintFails out out' text NoMemory = Keeps out out'
PrintFails out out' text failure = ⊥

-- an address was not bound, or memory ran out for that or for the lines with the addresses
abbrev pub ListenFails : {L : Type 0} (site : Site L) → HostFault → Type 0
ListenFails site (Address unbound) = site.refuses unbound
ListenFails {L} site NoMemory = IsWithoutMemory site ⊎ ((l : L) × (places : List Endpoint) × site.listens_at l places)
ListenFails site failure = ⊥

abbrev failure_by : BindFault → ListenFault → HostFault
failure_by fault_of_bind.NoMemory unbound = NoMemory
failure_by why unbound = Address unbound

-- the program's fault for an address that wasn't bound
abbrev pub unbound_failure : ListenFault → HostFault
unbound_failure unbound = failure_by unbound.why unbound

-- the program's fault for a fault of its server
abbrev pub failure_of : RunFault → HostFault
failure_of (run.Announcement error) = Output error
failure_of (run.Server faults.NoMemory) = NoMemory
failure_of (run.Server fault) = Server fault

-- ---- standard error

-- the text after the line of a refusal at this segment: a line that names the file, unless memory ran out
abbrev pub IsRemedy : {F : Type 0} (path : F → List ℕ) (files : List F) (segment : ℕ) → Refusal → List ℕ → Type 0
IsRemedy path files segment why more = (file : _) → slice_get files segment ≡ Some file
    → why ≢ refusal.NoMemory → NamesFile (path file) more

-- The lines on standard error for a fault. For a refusal: its line, and the remedy if all of it was written. For other
-- faults: a line that begins with `snapd: ` and has a text of the system in it.
abbrev pub SaysFailure : {F : Type 0} (path : F → List ℕ) (files : List F) → HostFault
    → (is_told : Bool) (old new : Option (List ℕ)) → Type 0
SaysFailure path files (Refused segment why len) is_told old new =
    (more : List ℕ) × SaysLines (refused_line why ++ more) is_told old new
    × (is_told ≡ true → IsRemedy path files segment why more)
SaysFailure path files NoMemory is_told old new = SaysLines (refused_line refusal.NoMemory) is_told old new
SaysFailure path files failure is_told old new = Complains None is_told old new

-- the lines on standard error at the end: none if it didn't end early
abbrev pub SaysEnd : {F : Type 0} (path : F → List ℕ) (files : List F) → End → (is_told : Bool)
    (old new : Option (List ℕ)) → Type 0
SaysEnd path files (Ok k) is_told old new = (is_told ≡ true) × Keeps old new
SaysEnd path files (Err failure) is_told old new = SaysFailure path files failure is_told old new

-- ---- all of it

-- The status, standard error and the printed text agree on one result. `errs` and `errs'` are what standard error held
-- before and after, `out` and `out'` what the writer held.
pub record TellsItsEnd {D L : Type 0} (disk : Disk.Ghosts D) (devices : List D) (site : Site L)
    (order : ServeOptions) (ended : Exit) (errs errs' out out' : Option (List ℕ)) : Type 0 where
  pub end : End
  -- the status is that of the result
  pub status : ended.status ≡ status_at end
  -- standard error got the lines of the result
  pub says : SaysEnd (λ file. file.now) order.files.items end ended.is_told errs errs'
  -- the server ended with the result, and its text was printed
  pub ends : EndsHost disk devices site order.connections out out' end
