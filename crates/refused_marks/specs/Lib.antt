pub mod RefusedMarks
pub mod Ends
