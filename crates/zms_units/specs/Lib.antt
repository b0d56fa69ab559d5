pub mod Limits
pub mod Segments
pub mod Rounding
pub mod Runs
pub mod Cursors
pub mod Apart
pub mod Weights
pub mod Classes
