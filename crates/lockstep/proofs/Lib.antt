pub mod Decisions
pub mod Likeness
pub mod Expansion
pub mod Conditions
pub mod Lockstep
pub mod Changed
pub mod Answers
