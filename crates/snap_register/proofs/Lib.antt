pub mod Lines
pub mod Places
pub mod Spots
pub mod Sums
pub mod Blocks
pub mod Keeps
pub mod Pools
pub mod Joins
pub mod Later
pub mod Views
pub mod Opens
pub mod Updates
pub mod Aligned
pub mod Drafts
pub mod Pairs
pub mod Packed
mod Vectors
