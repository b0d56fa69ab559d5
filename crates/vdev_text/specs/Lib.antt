pub mod Specs
pub mod Reading
