pub mod Adding
pub mod Listing
pub mod Refilling
pub mod Removing
pub mod Forwarding
