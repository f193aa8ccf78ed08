pub mod Covering
pub mod Keeping
