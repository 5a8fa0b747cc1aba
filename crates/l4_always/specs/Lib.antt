pub mod Always
pub mod Inner
