pub mod Pieces
pub mod Numbers
pub mod Places
pub mod Traces
pub mod Held
