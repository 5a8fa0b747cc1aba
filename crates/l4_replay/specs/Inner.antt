pub mod Faults
pub mod Heard
pub mod Homes
pub mod Inboxes
pub mod Nodes
pub mod Posters
pub mod Processors
pub mod Waiting
