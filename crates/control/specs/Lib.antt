pub mod Stretches
pub mod Waits
