pub mod Lengths
pub mod Rooms
