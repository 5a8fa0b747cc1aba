-- Turns and ticks.
pub mod Choices
pub mod Instructions
pub mod Failing
pub mod Ending
pub mod Timing
pub mod Choosing
pub mod Ticking
