pub mod Passing
pub mod Never
