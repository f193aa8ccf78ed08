pub mod FlowsHold
pub mod Only
pub mod Seats
pub mod Asked
pub mod Peers
pub mod Core
pub mod Stands
pub mod Wants
