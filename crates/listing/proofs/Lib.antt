pub mod Sets
pub mod Counts
pub mod Lists
pub mod Relisted
