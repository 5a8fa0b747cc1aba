pub mod Locals
pub mod Possible
pub mod Rounds
pub mod GoingOn
pub mod Ended
pub mod Replaying
pub mod Faults
