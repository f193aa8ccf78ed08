pub mod Walks
pub mod Marks
pub mod Firsts
pub mod Laws
mod Puts
