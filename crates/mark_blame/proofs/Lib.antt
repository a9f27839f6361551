pub mod Blames
