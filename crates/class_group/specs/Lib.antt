pub mod Turns
pub mod Passes
pub mod Journey
pub mod Answers
pub mod Opening
pub mod Closed
pub mod Journals
pub mod Laws
