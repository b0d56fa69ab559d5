pub mod Places
pub mod Splices
pub mod Searches
pub mod Sizes
pub mod Merging
pub mod Elements
pub mod Histograms
pub mod Nodes
