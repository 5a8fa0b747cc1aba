pub mod Done
pub mod Listed
pub mod Named
pub mod Reported
pub mod Stayed
