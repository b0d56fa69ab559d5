pub mod Closings
pub mod Journal
pub mod Holds
