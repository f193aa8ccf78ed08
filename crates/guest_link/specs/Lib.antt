pub mod Paces
pub mod Places
pub mod Linking
pub mod Keeping
pub mod Passing
