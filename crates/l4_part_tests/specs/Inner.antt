pub mod Coded
pub mod Counters
