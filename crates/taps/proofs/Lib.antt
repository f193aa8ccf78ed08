mod Keeping
pub mod Marking
pub mod Passing
mod Walks
