pub mod Kinds
pub mod Octets
pub mod Quads
pub mod Sizes
