pub mod Refused
pub mod Stored
pub mod Carried
pub mod Founded
pub mod Seats
