pub mod Tables
pub mod Reading
pub mod Grammar
pub mod Putting
