pub mod Calls
pub mod Exchange
pub mod Again
