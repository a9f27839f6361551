pub mod MarkLine
