pub mod Audited
pub mod Begun
pub mod Behind
pub mod Charted
pub mod Drawing
pub mod Drawn
pub mod Faults
pub mod Holding
pub mod Making
pub mod Judged
pub mod Linting
pub mod Listed
pub mod Performed
mod Opening
pub mod ReadAs
pub mod Records
pub mod Running
pub mod Sessions
pub mod Spelled
pub mod Statuses
pub mod Telling
pub mod Traces
mod Parted
