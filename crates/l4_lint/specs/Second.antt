pub mod Commands
pub mod Faults
pub mod Forms
pub mod Judging
pub mod Names
pub mod Parts
pub mod Reading
pub mod Unused
