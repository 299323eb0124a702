pub mod Bounds
pub mod Numbers
pub mod Tallies
pub mod Answered
pub mod Places
