pub mod Bases
pub mod Seats
pub mod Joining
pub mod Closing
