pub mod Inner
pub mod Reasons
pub mod Worlds
