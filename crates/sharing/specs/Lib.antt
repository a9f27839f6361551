pub mod Sharing
pub mod Keys
