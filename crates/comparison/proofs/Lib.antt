pub mod Room
pub mod Values
pub mod Walk
