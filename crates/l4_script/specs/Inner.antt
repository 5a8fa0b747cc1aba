pub mod Calls
pub mod Headings
pub mod Places
pub mod Scripts
pub mod Second
pub mod Stages
