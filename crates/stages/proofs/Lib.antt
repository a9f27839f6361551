pub mod Places
pub mod Sentence
pub mod Looking
