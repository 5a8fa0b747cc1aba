pub mod Assembled
pub mod EndRows
pub mod Events
