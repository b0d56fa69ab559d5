pub mod InOrder
pub mod Apart
