pub mod Columns
pub mod Fair
pub mod InForce
