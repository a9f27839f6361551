pub mod Stages
pub mod Sentence
pub mod Choice
pub mod Looking
