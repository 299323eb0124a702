-- The limits of the layers below that an order keeps.
pub use Rattle.snap_history.specs.declared.limits.TheConstants.{MAX_COUNT, MAX_SCANNERS, MAX_VALUE_LEN}
pub use Rattle.snap_frame.specs.declared.request.TheConstants.{MAX_UPDATE_VALUE}
pub use Rattle.snap_slot.specs.declared.layout.TheConstants.{SLOT_COUNT}
pub use Rattle.snap_client.specs.declared.again.TheConstants.{MAX_TRIES}
