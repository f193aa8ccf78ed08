pub mod Apartness
mod Passing
mod Putting
pub mod Reporting
pub mod Stretching
mod Talking
mod Windows
pub mod Reading
pub mod Encoding
mod Rows
