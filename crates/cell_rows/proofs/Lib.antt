pub mod Holders
pub mod Settling
