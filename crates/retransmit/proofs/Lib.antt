pub mod Steady
mod Waiting
