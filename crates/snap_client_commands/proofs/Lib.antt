pub mod InPlace
pub mod Tried
pub mod WatchSets
