pub mod Cuts
pub mod Ip
pub mod Sets
pub mod Holes
