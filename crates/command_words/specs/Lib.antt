pub mod Texts
pub mod Options
pub mod Values
pub mod Meaning
pub mod Stops
pub mod Walking
pub mod Narrowing
