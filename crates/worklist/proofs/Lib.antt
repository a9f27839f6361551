pub mod Rest
pub mod Stack
pub mod Words
