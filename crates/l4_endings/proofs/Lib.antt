pub mod Walking
pub mod Nexts
pub mod Ending
mod Told
pub mod Finding
pub mod Listing
pub mod Persisting
pub mod Posting
