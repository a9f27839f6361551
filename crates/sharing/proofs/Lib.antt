pub mod Spellings
pub mod Firsts
pub mod Keys
pub mod Lines
