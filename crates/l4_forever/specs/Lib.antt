pub mod Forever
pub mod Inner
pub mod Moves
pub mod Waits
