-- What the processors and the letters promise each other is kept by each piece of an event.
pub mod Promised
pub mod Letters
pub mod Frames
pub mod Locals
pub mod Phases
pub mod Acts
pub mod Retargets
pub mod Orders
pub mod Giving
pub mod Telling
pub mod Turns
pub mod Choosing
pub mod Taking
pub mod Withdrawn
pub mod Handling
