pub mod Bare
pub mod Histories
pub mod Inner
pub mod Late
pub mod Numberless
pub mod Timeless
pub mod Told
