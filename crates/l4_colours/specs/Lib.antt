pub mod Inner
pub mod Outputs
pub mod Painted
pub mod Tones
