pub mod Alike
pub mod Entries
pub mod Similar
pub mod Shifted
pub mod InCommon
