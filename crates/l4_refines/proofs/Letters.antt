-- Letters: handled, late, and lawful where they go.
pub mod Receiving
pub mod Noticing
pub mod Late
pub mod Gone
pub mod Addressed
pub mod AddressedEvents
pub mod Lawful
