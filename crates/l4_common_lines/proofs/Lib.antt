pub mod Begun
pub mod Spelled
pub mod Texts
pub mod Fits
pub mod Sends
pub mod Lines
pub mod AsGood
pub mod Expected
