pub mod Talk
pub mod Apart
pub mod Reports
pub mod Commands
