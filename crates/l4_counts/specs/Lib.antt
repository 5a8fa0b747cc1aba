pub mod Counts
pub mod Inner
pub mod Lines
