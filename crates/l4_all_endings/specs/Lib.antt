pub mod Inner
pub mod Told
pub mod Tried
