pub mod NextFrames
