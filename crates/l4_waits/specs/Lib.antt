pub mod Circles
pub mod Deadlocks
pub mod Held
pub mod Lines
