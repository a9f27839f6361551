pub mod Tabulate
pub mod Whole
