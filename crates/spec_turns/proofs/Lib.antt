pub mod Asking
pub mod Ends
pub mod Errands
pub mod Parts
pub mod Reports
pub mod Rows
pub mod Turns
