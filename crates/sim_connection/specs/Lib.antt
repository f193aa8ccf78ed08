pub mod Seen
pub mod Holding
pub mod Over
pub mod Same
pub mod Sending
