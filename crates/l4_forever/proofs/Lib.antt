pub mod Waiting
pub mod Passing
pub mod Holding
pub mod Getting
pub mod Grounds
