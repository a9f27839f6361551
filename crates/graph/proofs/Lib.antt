pub mod Lists
pub mod Graphs
pub mod Walk
