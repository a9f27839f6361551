pub mod Worklist
