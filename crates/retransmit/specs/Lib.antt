pub mod Estimate
pub mod Resending
