pub mod Reading
pub mod Judging
pub mod Telling
mod Rows
