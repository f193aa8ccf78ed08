pub mod Plain
pub mod Spelling
