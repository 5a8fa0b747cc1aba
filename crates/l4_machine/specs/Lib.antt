pub mod Gathered
pub mod Gathers
pub mod Inner
pub mod Outcomes
