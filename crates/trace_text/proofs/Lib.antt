pub mod Lists
pub mod Weights
pub mod Reading
pub mod NotesFixed
pub mod TracesFixed
pub mod ClassesFixed
