pub mod Ether
