pub mod Bools
pub mod Decides
pub mod Copies
