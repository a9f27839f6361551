pub mod Some
pub mod Successors
pub mod Edges
pub mod Model
pub mod Graphs
