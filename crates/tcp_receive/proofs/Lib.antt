pub mod Arriving
pub mod Coming
mod Standing
