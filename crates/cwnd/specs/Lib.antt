pub mod Congestion
