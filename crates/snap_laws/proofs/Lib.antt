pub mod Replies
pub mod Payloads
pub mod Runs
pub mod Calls
pub mod Stands
pub mod ClientAnswers
pub mod Ever
pub mod Premises
mod Workers
pub mod Openings
pub mod Together
pub mod NoLoss
pub mod Again
pub mod Moment
mod Between
