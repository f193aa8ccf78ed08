mod Among
pub mod Attending
pub mod Counted
pub mod Left
pub mod Opening
pub mod Serving
mod Sleeping
pub mod Taking
pub mod Turning
pub mod Wanted
