pub mod Moments
pub mod Beginnings
pub mod Lists
pub mod Pairs
pub mod Memories
pub mod Removals
