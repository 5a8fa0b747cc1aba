pub mod Inner
pub mod Replays
