pub mod Uses
pub mod By
