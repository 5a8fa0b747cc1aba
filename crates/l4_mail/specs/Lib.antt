pub mod Ends
pub mod Inner
pub mod Ports
pub mod Rests
pub mod Ways
