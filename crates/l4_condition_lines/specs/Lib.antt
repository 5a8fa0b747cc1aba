pub mod Conditions
pub mod Inner
