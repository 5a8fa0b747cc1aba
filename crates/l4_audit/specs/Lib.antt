pub mod Audits
pub mod Inner
pub mod Possible
pub mod Reasons
pub mod Starting
pub mod Waits
