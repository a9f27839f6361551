pub mod Blame
pub mod Search
