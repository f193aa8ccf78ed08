pub mod Feeding
pub mod Owed
mod Single
