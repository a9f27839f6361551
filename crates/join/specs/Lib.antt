pub mod Answers
pub mod Theorem
pub mod Join
