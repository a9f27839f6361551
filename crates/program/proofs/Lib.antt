pub mod Decides
pub mod Held
pub mod Texts
pub mod Lengths
pub mod RoundTrip
pub mod Unique
