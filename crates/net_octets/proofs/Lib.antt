mod Blocks
pub mod Folds
pub mod Oks
pub mod Parts
mod Rows
pub mod Six
pub mod Sums
pub mod Writing
