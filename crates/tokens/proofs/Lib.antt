pub mod Steps
pub mod Parse
pub mod Numbers
pub mod Constants
