pub mod Checks
pub mod Connection
pub mod Hosts
pub mod Owing
pub mod Segments
pub mod Timing
pub mod Windows
