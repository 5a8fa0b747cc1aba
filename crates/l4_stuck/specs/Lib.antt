pub mod Inner
pub mod Stuck
