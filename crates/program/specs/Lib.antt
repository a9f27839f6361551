pub mod Program
pub mod Reading
