pub mod Listing
pub mod Picks
pub mod Writes
