mod Fetched
pub mod Told
