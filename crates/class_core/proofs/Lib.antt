pub mod Ranks
pub mod Booleans
pub mod Standing
pub mod Mirroring
pub mod Keeping
pub mod Opening
