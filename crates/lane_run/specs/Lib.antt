pub mod Answers
pub mod Acts
pub mod Lines
pub mod Names
pub mod Runs
