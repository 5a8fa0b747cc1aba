pub mod Leading
mod Stopping
pub mod Telling
mod Told
