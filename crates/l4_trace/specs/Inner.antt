pub mod Forward
pub mod Texts
