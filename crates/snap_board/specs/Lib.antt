pub mod Paths
pub mod Pages
pub mod Answered
