mod Alike
mod Asking
mod Audited
mod Begun
mod Drawn
mod Lists
mod OfAll
mod Quiet
mod SameStuck
pub mod Sharing
mod Some
mod Statuses
mod StuckThreads
mod Walks
mod Writing
