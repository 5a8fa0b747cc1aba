pub mod Ends
pub mod Posts
