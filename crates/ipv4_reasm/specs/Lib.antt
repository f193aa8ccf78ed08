pub mod Holes
pub mod Areas
pub mod Answers
