pub mod Codes
pub mod Ends
pub mod Grown
pub mod Rows
pub mod States
pub mod Table
pub mod Told
pub mod Views
