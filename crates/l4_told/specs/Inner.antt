pub mod Alone
pub mod Kept
pub mod OfOne
pub mod Replays
