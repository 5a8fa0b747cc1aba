pub mod Joined
pub mod Registers
pub mod ReportRows
