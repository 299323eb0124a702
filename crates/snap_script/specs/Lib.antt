pub mod Words
pub mod Line
pub mod Text
pub mod Script
pub mod Interpreter
pub mod LineBuffer
