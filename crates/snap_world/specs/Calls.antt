-- The device calls of a store and of a restart, as a reply names them.
use Rattle.snap_persist.specs.declared.persist.NextCall.{NextCall}
use Rattle.snap_persist.specs.declared.persist.NextCall.TheVariants.{Write, Sync, Done}
use Rattle.snap_world.specs.declared.{event.Kind.Kind, node.OpeningCall.OpeningCall}
use Rattle.snap_world.specs.declared.event.Kind.TheVariants as kind
use Rattle.snap_world.specs.declared.node.OpeningCall.TheVariants as opening

-- the call of a store of this kind; a store makes no read
abbrev pub store_call : Kind → NextCall
store_call (kind.Write w) = Write w
store_call kind.Sync = Sync
store_call kind.Read = Done

-- the kind of a call of a restart
abbrev pub opening_kind : OpeningCall → Kind
opening_kind opening.Sync = kind.Sync
opening_kind opening.Read = kind.Read
