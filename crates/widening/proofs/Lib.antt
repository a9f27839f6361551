pub mod Uses
pub mod Again
