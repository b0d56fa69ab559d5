pub mod Notes
pub mod Keeps
pub mod Lanes
pub mod Passes
