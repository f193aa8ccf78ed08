pub mod Fragments
pub mod Guests
pub mod Happenings
pub mod Moments
pub mod Packets
pub mod Shape
pub mod Sockets
