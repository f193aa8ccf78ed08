pub mod Capturing
pub mod Recording
