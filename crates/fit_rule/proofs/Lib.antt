pub mod Ample
