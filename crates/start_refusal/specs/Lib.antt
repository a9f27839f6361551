pub mod StartRefusal
