pub mod Counts
pub mod Places
pub mod Windows
mod Rowing
