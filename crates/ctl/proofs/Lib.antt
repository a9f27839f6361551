pub mod Paths
pub mod Reach
pub mod Until
pub mod Weak
pub mod Least
pub mod Sum
