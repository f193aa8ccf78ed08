pub mod Frames
pub mod Keeps
pub mod Offers
pub mod State
