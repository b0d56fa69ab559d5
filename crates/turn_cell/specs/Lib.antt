pub mod Notes
pub mod Known
pub mod Lanes
pub mod Rule
pub mod Moves
