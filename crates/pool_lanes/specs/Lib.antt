pub mod Running
pub mod Merging
pub mod Rooms
pub mod Returning
pub mod Beginning
pub mod Lanes
pub mod Ending
