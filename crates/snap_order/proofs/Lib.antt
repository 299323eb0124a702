pub mod Known
pub mod Lines
pub mod Complaints
pub mod Digits
pub mod Growth
pub mod Values
