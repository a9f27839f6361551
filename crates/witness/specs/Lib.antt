pub mod Witness
pub mod Trails
