mod Faulting
mod Sizes
