pub mod Told
pub mod Lists
