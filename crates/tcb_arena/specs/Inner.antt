pub mod Blocks
pub mod Due
pub mod Left
pub mod Rings
pub mod Shown
