pub mod BigEndian
pub mod Cuts
pub mod Decode
pub mod Exact
pub mod Behind
pub mod Lengths
