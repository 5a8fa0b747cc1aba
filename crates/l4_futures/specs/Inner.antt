pub mod Asked
pub mod Codes
pub mod Ends
pub mod Reported
pub mod Search
