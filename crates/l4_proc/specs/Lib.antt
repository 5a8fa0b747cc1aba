pub mod Choices
pub mod Ends
pub mod Inner
pub mod Logs
pub mod Rests
pub mod Whole
pub mod Working
