pub mod Accepted
pub mod Uses
pub mod Unique
pub mod Rewritten
