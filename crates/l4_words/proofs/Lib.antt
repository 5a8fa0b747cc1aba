pub mod Above
mod Behind
pub mod Dots
mod Eights
mod Faces
mod Few
pub mod FirstWord
pub mod Found
pub mod Front
pub mod Hashes
pub mod Hexadecimal
pub mod InFront
pub mod Lengths
pub mod Numerals
pub mod Parts
pub mod Places
pub mod ReadNames
pub mod Separators
pub mod Spelled
pub mod Splits
