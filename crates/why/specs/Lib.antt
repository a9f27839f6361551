pub mod Why
pub mod Lines
