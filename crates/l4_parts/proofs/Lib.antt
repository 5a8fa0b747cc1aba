pub mod Knowing
pub mod Composing
