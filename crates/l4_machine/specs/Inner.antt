pub mod EventsLeft
pub mod Recorded
pub mod Rising
pub mod Teams
pub mod Waiting
