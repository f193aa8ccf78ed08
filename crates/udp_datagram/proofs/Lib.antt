pub mod Writing
pub mod Passing
pub mod Encoding
