pub mod Fitting
pub mod Judgeable
pub mod Kept
pub mod Printing
pub mod Reading
mod Errors
mod Reached
mod Refused
mod Reported
mod Told
mod Walking
