pub mod Asked
pub mod Talk
pub mod Hears
pub mod Waits
pub mod Turns
pub mod Wrapped
