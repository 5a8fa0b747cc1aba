pub mod Settled
pub mod Rest
