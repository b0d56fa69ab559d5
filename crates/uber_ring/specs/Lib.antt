pub mod Numbers
pub mod Slots
pub mod TableBytes
pub mod TableFields
pub mod Encoding
pub mod Heads
pub mod Writes
