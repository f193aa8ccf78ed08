pub mod Windows
pub mod Carrying
mod Addresses
