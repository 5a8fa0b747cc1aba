pub mod Fabrics
pub mod Takes
