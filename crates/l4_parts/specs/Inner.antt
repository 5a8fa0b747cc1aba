pub mod Events
pub mod Known
pub mod Numbers
pub mod Rows
