mod Agreeing
mod Beginning
mod Cutting
mod Keeping
mod Knowing
mod Numbering
mod Serving
pub mod Timing
pub mod Waiting
mod Writing
