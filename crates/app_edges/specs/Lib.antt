pub mod Mistakes
pub mod Statuses
pub mod Fetching
pub mod Texts
pub mod Writers
