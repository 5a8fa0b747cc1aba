pub mod Doing
pub mod Parts
pub mod Putting
