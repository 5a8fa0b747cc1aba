pub mod Endings
pub mod Inner
pub mod Persistent
pub mod Rests
