pub mod Asked
pub mod Told
pub mod Meetings
pub mod Lines
pub mod Raised
