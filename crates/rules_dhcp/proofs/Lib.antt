pub mod Owning
pub mod Holding
pub mod Lasting
pub mod HistoryRows
