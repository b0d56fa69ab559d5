pub mod Journeys
pub mod Acting
