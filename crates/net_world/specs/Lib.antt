pub mod Accepting
pub mod Faults
pub mod Orders
pub mod Recording
pub mod Slots
pub mod Tables
pub mod Telling
pub mod Lasting
