pub mod Journals
pub mod Answers
pub mod Pairs
pub mod Within
pub mod Rotors
pub mod Walks
