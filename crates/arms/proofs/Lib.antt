pub mod Strategies
pub mod Filling
pub mod Owned
pub mod Forced
