pub mod Opened
pub mod Adding
