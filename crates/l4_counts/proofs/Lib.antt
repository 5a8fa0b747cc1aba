pub mod Counting
pub mod Each
pub mod Joined
pub mod Told
