pub mod Serving
pub mod Loading
pub mod Resting
