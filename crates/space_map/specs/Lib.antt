pub mod Layout
pub mod Batches
pub mod Reading
pub mod Replay
pub mod Laws
