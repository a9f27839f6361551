pub mod Spelling
pub mod Lists
pub mod Walk
