pub mod Learned
pub mod Posted
pub mod Remembered
pub mod Tried
pub mod Walked
