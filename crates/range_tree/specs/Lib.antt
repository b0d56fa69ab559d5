pub mod Nodes
pub mod Descents
pub mod Kept
pub mod Found
pub mod Sought
pub mod Thirteen
