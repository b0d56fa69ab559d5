pub mod Booleans
pub mod Order
pub mod Routing
pub mod Passing
pub mod Telling
pub mod Keeping
pub mod Staying
pub mod Counting
