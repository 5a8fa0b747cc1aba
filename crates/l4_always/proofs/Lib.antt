pub mod Columns
pub mod Telling
pub mod Seeing
pub mod Watching
pub mod Looking
mod Saying
