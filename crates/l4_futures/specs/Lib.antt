pub mod Choices
pub mod Endings
pub mod Inner
pub mod Stuck
pub mod Traces
