pub mod Serve
pub mod Scanners
pub mod Handles
