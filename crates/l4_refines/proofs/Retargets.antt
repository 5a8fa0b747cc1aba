-- Retargets: owed since a delivery, and done.
pub mod Others
pub mod Owes
pub mod Turned
pub mod Turning
pub mod Doing
