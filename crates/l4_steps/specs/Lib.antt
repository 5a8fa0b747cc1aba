pub mod Commands
pub mod Possible
pub mod Replies
pub mod Sessions
