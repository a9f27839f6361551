pub mod Rules
pub mod Lockstep
