mod Cut
pub mod Growing
pub mod Marking
pub mod Placing
pub mod Walking
mod Standing
mod Telling
