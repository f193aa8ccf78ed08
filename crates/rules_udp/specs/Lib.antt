pub mod Lives
pub mod Associations
