pub mod Ended
pub mod Inner
pub mod ThenRest
