pub mod Review
