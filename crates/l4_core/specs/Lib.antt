pub mod EventBuffers
pub mod Inner
pub mod Processor
