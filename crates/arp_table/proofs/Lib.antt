pub mod Learning
pub mod Encoding
