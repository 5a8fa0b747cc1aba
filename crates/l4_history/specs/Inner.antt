pub mod Rows
pub mod Sent
pub mod Slots
