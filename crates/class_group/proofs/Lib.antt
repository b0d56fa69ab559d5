pub mod Turning
pub mod Lifting
pub mod Meeting
pub mod Gathering
pub mod Places
pub mod Ending
pub mod JournalLaws
