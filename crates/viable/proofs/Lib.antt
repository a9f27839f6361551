pub mod Complete
pub mod Languages
pub mod Rows
pub mod Stops
pub mod Unique
