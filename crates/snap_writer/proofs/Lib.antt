pub mod Shown
pub mod Paired
pub mod Crashes
pub mod Untouched
pub mod Judgements
pub mod Lives
