pub mod Rankings
pub mod Groups
pub mod GroupInside
pub mod Classes
pub mod ClassInside
pub mod Opening
