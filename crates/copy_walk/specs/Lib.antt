pub mod Plans
pub mod Steps
pub mod Nexts
pub mod Laws
pub mod Routes
pub mod Walks
pub mod Walked
