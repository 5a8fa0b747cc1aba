pub mod Writing
mod IdKinds
mod Phases
