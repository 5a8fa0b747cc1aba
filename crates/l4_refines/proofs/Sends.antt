-- Sends: begun, come to their receivers, queued, refused, delivered, and answered.
pub mod Free
pub mod Deciding
pub mod Answering
pub mod Waiting
pub mod Finding
pub mod Refusable
pub mod Refusing
pub mod Queueing
pub mod Delivering
pub mod Beginning
pub mod Coming
