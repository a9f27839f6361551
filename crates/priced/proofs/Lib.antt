pub mod Reports
pub mod Unique
