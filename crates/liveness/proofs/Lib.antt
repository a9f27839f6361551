pub mod Rows
pub mod Agreement
