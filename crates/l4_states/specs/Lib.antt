pub mod Choices
pub mod Endings
pub mod Inner
pub mod Listed
