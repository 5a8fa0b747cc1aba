pub mod Choices
pub mod Replays
