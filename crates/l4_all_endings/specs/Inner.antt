pub mod Telling
pub mod Way
