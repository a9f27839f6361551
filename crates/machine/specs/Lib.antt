pub mod Machine
pub mod Ticks
pub mod Answer
