pub mod Rounds
pub mod Relisted
pub mod Unique
