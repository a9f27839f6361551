pub mod Digits
pub mod Constants
pub mod Lengths
pub mod Kept
