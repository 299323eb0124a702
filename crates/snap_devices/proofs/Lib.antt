pub mod Logged
pub mod Marked
pub mod Remembered
