pub mod Rules
pub mod Lists
pub mod Sides
pub mod Trees
pub mod Changes
pub mod Looks
