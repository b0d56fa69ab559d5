pub mod AtWork
pub mod Parts
