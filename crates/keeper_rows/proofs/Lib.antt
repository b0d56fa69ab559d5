pub mod Closings
pub mod AtWork
pub mod Near
pub mod Bases
pub mod Seating
