pub mod Store
