pub mod Holding
pub mod Laying
pub mod Batching
pub mod Deciding
pub mod Replaying
pub mod Fitting
pub mod Condensing
