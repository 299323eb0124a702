pub mod CallLog
pub mod FaultPlan
pub mod FileDisk
pub mod Held
pub mod MemDisk
pub mod Noise
pub mod Past
pub mod Story
