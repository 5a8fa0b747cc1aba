pub mod Names
pub mod Lines
pub mod Operands
pub mod Statements
pub mod Texts
pub mod Canonical
