pub mod History
pub mod Leases
pub mod Messages
pub mod Replies
pub mod Serving
