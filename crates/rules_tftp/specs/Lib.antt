pub mod Asking
pub mod Blocks
pub mod Laws
pub mod Packets
pub mod Transfers
pub mod Soundness
pub mod Saying
