pub mod Collects
pub mod ScanAnswer
pub mod Popped
pub mod Kept
