pub mod Liveness
