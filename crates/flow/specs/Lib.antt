pub mod Flow
pub mod FlowOf
pub mod Edges
