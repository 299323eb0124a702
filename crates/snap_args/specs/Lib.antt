pub mod Grammar
pub mod Tables
pub mod Words
pub mod Dumps
pub mod Numbers
pub mod Requests
pub mod Orders
