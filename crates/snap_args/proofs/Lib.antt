pub mod Asked
pub mod Layouts
pub mod Masks
pub mod Requests
pub mod Tables
pub mod Watched
