pub mod Layout
pub mod Grammar
