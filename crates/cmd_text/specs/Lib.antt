pub mod Words
pub mod Grammar
pub mod Files
pub mod Past
pub mod Laws
pub mod Reading
pub mod Faults
