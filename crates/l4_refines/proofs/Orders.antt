-- Orders: given, obeyed, and answered.
pub mod Asked
pub mod Asking
pub mod Obeying
pub mod Ordered
pub mod Obeyed
pub mod Giving
