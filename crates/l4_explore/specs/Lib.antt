pub mod Inner
pub mod Orders
pub mod Search
pub mod Told
pub mod Tries
