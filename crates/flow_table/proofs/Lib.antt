pub mod Finding
pub mod Freeing
pub mod Keeping
pub mod InTimeWait
pub mod Searching
pub mod Tables
pub mod Tuples
pub mod Vacating
