pub mod Gaps
pub mod Fragmentation
pub mod Texts
pub mod Stats
pub mod Faults
