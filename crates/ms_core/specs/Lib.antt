pub mod State
pub mod Buffers
pub mod Mirrors
pub mod Asked
pub mod Weights
pub mod Kept
pub mod Standing
pub mod Differences
