pub mod InFormats
pub mod Products
pub mod LetterRows
pub mod Seen
mod Values
