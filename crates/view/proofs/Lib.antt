pub mod Texts
pub mod Parts
pub mod Together
pub mod Room
pub mod Views
pub mod Refusals
pub mod Unique
pub mod Rows
