pub mod Orders
mod Listed
pub mod Lasting
mod Trying
mod Exploring
mod Telling
pub mod Covering
pub mod Nearing
mod Growing
mod Ends
mod Parted
mod Chains
