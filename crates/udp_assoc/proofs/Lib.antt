pub mod Below
pub mod Keeping
pub mod Numbering
pub mod Yielding
