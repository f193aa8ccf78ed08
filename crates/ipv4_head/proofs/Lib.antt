pub mod Cutting
pub mod Members
pub mod Passing
pub mod Plain
pub mod Encoding
