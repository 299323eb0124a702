pub mod Remainder
pub mod Replies
pub mod Tries
