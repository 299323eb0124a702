pub mod Drives
pub mod NodeStands
pub mod NodeSteps
pub mod Recovery
pub mod Gathers
pub mod Stands
pub mod Steps
pub mod Fresh
