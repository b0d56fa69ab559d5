pub mod OneVdev
pub mod SpecLemmas
