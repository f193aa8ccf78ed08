pub mod Keeping
pub mod Seeing
mod Taking
