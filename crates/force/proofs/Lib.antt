pub mod Forces
pub mod Unique
