pub mod GapWalk
pub mod Fragments
pub mod Showing
pub mod Telling
