pub mod Rules
pub mod Table
pub mod Known
pub mod Fill
pub mod Summary
