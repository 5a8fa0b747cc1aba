pub mod Columns
pub mod Conditions
pub mod Expected
pub mod Inner
pub mod Judging
pub mod Unmet
