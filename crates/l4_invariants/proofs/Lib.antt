pub mod Unseen
pub mod Staying
pub mod Going
pub mod Finding
pub mod Shortest
mod Rows
