pub mod Lines
pub mod Walk
pub mod Together
pub mod Room
pub mod Reports
pub mod Refusals
pub mod Unique
