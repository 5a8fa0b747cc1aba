pub mod Foreseen
pub mod Named
pub mod Standing
pub mod Touches
