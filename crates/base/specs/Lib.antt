pub mod Bytes
pub mod Pick
pub mod Decides
