pub mod Inner
pub mod Invariants
