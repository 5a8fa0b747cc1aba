pub mod Few
pub mod Threads
