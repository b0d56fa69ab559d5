pub mod Bounds
pub mod ByVdev
pub mod Pairs
pub mod VdevLines
