pub mod Reads
pub mod Searched
