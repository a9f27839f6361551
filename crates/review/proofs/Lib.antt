pub mod Reviews
pub mod Unique
pub mod Alone
