pub mod Causes
pub mod Doing
pub mod Ran
pub mod Serving
pub mod Statuses
pub mod Untroubled
