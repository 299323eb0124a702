pub mod Text
pub mod Ends
pub mod Puts
pub mod Fetch
