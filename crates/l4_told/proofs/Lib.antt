pub mod Kept
pub mod Telling
pub mod OfOne
pub mod Coming
pub mod Ended
pub mod Rounds
pub mod Going
pub mod Entries
