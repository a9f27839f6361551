pub mod Relist
pub mod Rounds
