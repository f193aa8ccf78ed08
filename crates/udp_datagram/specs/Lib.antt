pub mod Udp
