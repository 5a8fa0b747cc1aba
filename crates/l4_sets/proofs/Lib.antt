pub mod Aiming
pub mod Alike
pub mod Bits
pub mod Gathering
