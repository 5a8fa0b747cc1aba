pub mod Replays
pub mod Outcomes
