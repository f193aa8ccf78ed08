pub mod ControlServer
pub mod Laws
pub mod Replies
pub mod Asked
