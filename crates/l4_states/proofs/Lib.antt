pub mod Bytes
mod Parts
pub mod Reached
mod Systems
pub mod Following
pub mod Early
pub mod Chosen
pub mod Endings
pub mod Remembered
pub mod Places
