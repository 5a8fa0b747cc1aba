pub mod Fitting
pub mod Sends
