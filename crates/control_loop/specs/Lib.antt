pub mod Networks
pub mod Runs
pub mod Standing
