-- Which command line means which order.
use Rattle.std.specs.Prelude.{◌≡◌, ◌⊎◌, ◌↔◌, ◌<◌, ◌^◌, IfSome, IsTrue, List, [], ◌∷◌, map, Option, Some, None, codes}
use Rattle.std.specs.Prelude.{option_map}
use Rattle.clap.specs.Words.{IsAmong, Row, Text, fault_of, kind_of, subcommand_of}
use Rattle.clap.specs.declared.error.kind.ErrorKind.TheVariants.{DisplayHelp, DisplayVersion, OutOfMemory}
use Rattle.clap.specs.declared.error.{Error.Error, kind.ErrorKind.ErrorKind}
use Rattle.snap_order.specs.declared.order.FileOrder.TheVariants.{Format, Put, Get, Check, Slot}
use Rattle.snap_order.specs.Order.{IsWithinLimits}
use Rattle.snap_order.specs.declared.order.{Order.Order, FileOrder.FileOrder, InitOptions.InitOptions}
use Rattle.snap_order.specs.declared.order.{DoctorOptions.DoctorOptions, MigrateOptions.MigrateOptions}
use Rattle.snap_order.specs.declared.order.{ServeOptions.ServeOptions, CallOptions.CallOptions, DumpOptions.DumpOptions}
use Rattle.snap_order.specs.declared.order.{LoadOptions.LoadOptions, WatchOptions.WatchOptions}
use Rattle.snap_args.specs.Numbers.{AreSegmentsOf, IsGiven, IsLargeNumberOf, IsLayoutOf, IsLevelOf, IsModeOf}
use Rattle.snap_args.specs.Numbers.{IsNumberOf, IsPlaceOf}
use Rattle.snap_args.specs.{Dumps.IsHolderOf, Grammar.grammar_of, Requests.IsQuestionOf, Words.word_in, Words.words_in}
use Rattle.snap_args.specs.declared.fault.WordFault.{WordFault}
use Rattle.snap_order.specs.declared.order.Order.TheVariants as order
use Rattle.snap_args.specs.declared.fault.WordFault.TheVariants as fault

-- the arguments of `check` ask for this: the whole file, or the value of a slot
abbrev pub IsCheckOf : (of : Text → Option Text) → FileOrder → Type 0
IsCheckOf of (Check file is_json) = (of (codes "file") ≡ Some file.now) × (IsTrue is_json ↔ IsGiven (of (codes "json")))
    × (of (codes "slot") ≡ None) × (IsGiven (of (codes "value")) → ⊥)
IsCheckOf of (Slot file slot) = (of (codes "file") ≡ Some file.now) × IsNumberOf (of (codes "slot")) slot
    × IsGiven (of (codes "value")) × (IsGiven (of (codes "json")) → ⊥)
IsCheckOf of order = ⊥

-- the command and its arguments ask for this command on a file
abbrev pub IsFileAskedBy : Text → (of : Text → Option Text) → FileOrder → Type 0
IsFileAskedBy name of (Format file i n) = (name ≡ codes "format")
    × (of (codes "file") ≡ Some file.now) × IsPlaceOf of i n
IsFileAskedBy name of (Put file i n) = (name ≡ codes "put") × (of (codes "file") ≡ Some file.now) × IsPlaceOf of i n
IsFileAskedBy name of (Get file i n) = (name ≡ codes "get") × (of (codes "file") ≡ Some file.now) × IsPlaceOf of i n
IsFileAskedBy name of order = (name ≡ codes "check") × IsCheckOf of order

-- the arguments ask to convert this file
pub record IsMigrationOf (of : Text → Option Text) (m : MigrateOptions) : Type 0 where
  pub old : of (codes "old") ≡ Some m.old.now
  pub new : of (codes "new") ≡ Some m.new.now
  pub place : IsPlaceOf of m.index m.count

-- the arguments ask to make this folder
pub record IsFoundingOf (of : Text → Option Text) (f : InitOptions) : Type 0 where
  pub folder : of (codes "folder") ≡ Some f.folder.now
  pub count : IsNumberOf (of (codes "count")) f.count
  pub missing_empty : IsTrue f.is_missing_empty ↔ IsGiven (of (codes "missing-empty"))

-- the arguments ask for a report on this folder
pub record IsExaminationOf (of : Text → Option Text) (e : DoctorOptions) : Type 0 where
  pub folder : of (codes "folder") ≡ Some e.folder.now
  pub measured : IsTrue e.is_measured ↔ IsGiven (of (codes "measure"))

-- these are the first address and the further ones, in order
abbrev pub AreAddressesOf : (first : Option Text) (further : List Text) → List Text → Type 0
AreAddressesOf None further addresses = ⊥
AreAddressesOf (Some first) further addresses = addresses ≡ first ∷ further

-- the server's addresses, numbers, log level and address for HTTP are those of these arguments
pub record IsServiceOf (of : Text → Option Text) (all : Text → List Text) (s : ServeOptions)
    : Type 0 where
  pub addresses : AreAddressesOf (of (codes "address")) (all (codes "listen")) (map (λ a. a.now) s.addresses.items)
  pub mode : IsModeOf (of (codes "socket-mode")) s.socket_mode
  pub scanners : IsNumberOf (of (codes "scanners")) s.scanners
  pub connections : IsLargeNumberOf (of (codes "connections")) s.connections
  pub large : IfSome s.connections (λ n. n < 2 ^ 64)
  pub clients : IsLargeNumberOf (of (codes "clients-max")) s.clients
  pub idle : IsLargeNumberOf (of (codes "idle")) s.idle
  pub log : IsLevelOf (of (codes "log")) s.log
  pub http : option_map (λ a. a.now) s.http ≡ of (codes "http")

-- the arguments ask for this call
pub record IsCallOf (of : Text → Option Text) (all : Text → List Text) (c : CallOptions) : Type 0 where
  pub address : of (codes "address") ≡ Some c.address.now
  pub request : IsQuestionOf (all (codes "request")) (of (codes "value")) (of (codes "after")) c.question
  pub tries : IsNumberOf (of (codes "tries")) c.tries
  pub wait : IsLargeNumberOf (of (codes "wait")) c.wait
  pub timeout : IsLargeNumberOf (of (codes "timeout")) c.timeout
  pub layout : IsLayoutOf (of (codes "text")) (of (codes "json")) c.layout

-- the arguments ask for this watch
pub record IsWatchOf (of : Text → Option Text) (all : Text → List Text) (w : WatchOptions) : Type 0 where
  pub address : of (codes "address") ≡ Some w.address.now
  pub segments : AreSegmentsOf (all (codes "segments")) w.segments.items
  pub every : IsLargeNumberOf (of (codes "every")) w.every
  pub json : IsTrue w.is_json ↔ IsGiven (of (codes "json"))

-- the arguments ask for this dump
pub record IsDumpOf (of : Text → Option Text) (d : DumpOptions) : Type 0 where
  pub holder : IsHolderOf (of (codes "holder")) d.holder
  pub tries : IsNumberOf (of (codes "tries")) d.tries
  pub wait : IsLargeNumberOf (of (codes "wait")) d.wait
  pub timeout : IsLargeNumberOf (of (codes "timeout")) d.timeout

-- the arguments ask to make this folder of this dump
pub record IsLoadOf (of : Text → Option Text) (l : LoadOptions) : Type 0 where
  pub folder : of (codes "folder") ≡ Some l.folder.now
  pub dump : of (codes "dump") ≡ Some l.dump.now
  pub count : IsLargeNumberOf (of (codes "count")) l.count

-- the arguments of `serve` ask for this server: with these files, or with this folder
abbrev pub IsServerOf : (of : Text → Option Text) (all : Text → List Text) → Order → Type 0
IsServerOf of all (order.Serve s) = (of (codes "dir") ≡ None)
    × (all (codes "files") ≡ map (λ f. f.now) s.files.items) × IsServiceOf of all s
IsServerOf of all (order.ServeFolder folder s) = (of (codes "dir") ≡ Some folder.now)
    × (all (codes "files") ≡ []) × IsServiceOf of all s
IsServerOf of all order = ⊥

-- the command and its arguments ask for this order
abbrev pub IsAskedBy : Text → (of : Text → Option Text) (all : Text → List Text) → Order → Type 0
IsAskedBy name of all (order.File o) = IsFileAskedBy name of o
IsAskedBy name of all (order.Migrate m) = (name ≡ codes "migrate") × IsMigrationOf of m
IsAskedBy name of all (order.Init f) = (name ≡ codes "init") × IsFoundingOf of f
IsAskedBy name of all (order.Doctor e) = (name ≡ codes "doctor") × IsExaminationOf of e
IsAskedBy name of all (order.Call c) = (name ≡ codes "call") × IsCallOf of all c
IsAskedBy name of all (order.Watch w) = (name ≡ codes "watch") × IsWatchOf of all w
IsAskedBy name of all (order.Dump d) = (name ≡ codes "dump") × IsDumpOf of d
IsAskedBy name of all (order.Load l) = (name ≡ codes "load") × IsLoadOf of l
IsAskedBy name of all order.Script = name ≡ codes "script"
IsAskedBy name of all order = (name ≡ codes "serve") × IsServerOf of all order

-- The words mean this order: the grammar takes them, with a command and arguments that ask for it,
-- and its numbers are within their limits.
pub record Means (words : List Text) (order : Order) : Type 0 where
  pub found : Text × List Row
  pub taken : fault_of grammar_of words ≡ []
  pub command : subcommand_of grammar_of words ≡ Some found
  pub asked : IsAskedBy found.0 (word_in found.1) (words_in found.1) order
  pub limits : IsWithinLimits order

-- the kinds of parser errors that print help or the version
abbrev pub IsRequest : ErrorKind → Type 0
IsRequest kind = (kind ≡ DisplayHelp) ⊎ (kind ≡ DisplayVersion)

-- the fault for an error of the parser
abbrev pub IsParseFault : Error → WordFault → Type 0
IsParseFault error (fault.Help e) = (e ≡ error) × IsRequest (kind_of error)
IsParseFault error (fault.Words e) = (e ≡ error) × (IsRequest (kind_of error) → ⊥) × (kind_of error ≡ OutOfMemory → ⊥)
IsParseFault error fault.Memory = kind_of error ≡ OutOfMemory
IsParseFault error why = ⊥

-- The words don't match the grammar: `Help` is for those that ask for help or the version, and `Words` for all others.
abbrev pub IsTold : List Text → WordFault → Type 0
IsTold words (fault.Help e) = IsAmong (kind_of e) (fault_of grammar_of words) × IsRequest (kind_of e)
IsTold words (fault.Words e) = IsAmong (kind_of e) (fault_of grammar_of words) × (IsRequest (kind_of e) → ⊥)
IsTold words fault.Memory = Unit {0}
IsTold words why = ⊥
