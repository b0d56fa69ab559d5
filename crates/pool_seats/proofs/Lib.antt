pub mod Alike
pub mod Weighing
pub mod Bases
