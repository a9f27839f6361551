pub mod Arms
pub mod Forced
