pub mod Zip
pub mod Parts
pub mod Operands
pub mod Crashes
pub mod Plays
pub mod Steps
pub mod Halts
pub mod Runs
