pub mod Blame
pub mod Counting
