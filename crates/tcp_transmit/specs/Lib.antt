pub mod Acks
pub mod Alone
pub mod Pieces
pub mod Timing
pub mod Transmission
