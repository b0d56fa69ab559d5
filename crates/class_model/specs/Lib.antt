pub mod Replay
pub mod Picks
pub mod Legal
pub mod Laws
