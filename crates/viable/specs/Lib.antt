pub mod Begins
pub mod Grammar
