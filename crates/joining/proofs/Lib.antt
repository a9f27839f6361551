pub mod Statements
pub mod WellFormed
pub mod Runs
pub mod Written
