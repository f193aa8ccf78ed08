pub mod Addresses
pub mod Classes
pub mod Settings
pub mod Ranges
pub mod Names
pub mod Ports
