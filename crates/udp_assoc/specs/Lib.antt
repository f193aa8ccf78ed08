pub mod Kept
pub mod Relays
pub mod Sending
pub mod State
