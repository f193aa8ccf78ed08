pub mod Arp
pub mod Table
