pub mod Draws
pub mod Faults
pub mod Runs
