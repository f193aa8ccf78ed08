pub mod Downward
pub mod Kept
pub mod Upward
