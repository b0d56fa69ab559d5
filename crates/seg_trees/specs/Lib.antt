pub mod Sets
pub mod OneSet
pub mod Kept
pub mod Pieces
