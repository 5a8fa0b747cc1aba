pub mod Inner
pub mod Lines
pub mod Objects
pub mod Rows
pub mod Scripts
pub mod Steps
