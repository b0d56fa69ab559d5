pub mod Replies
pub mod Tallies
pub mod Texts
