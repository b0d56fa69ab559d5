pub mod Closings
pub mod GateState
pub mod GateInside
