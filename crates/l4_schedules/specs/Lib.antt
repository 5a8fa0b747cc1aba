pub mod Faulty
pub mod InFiles
pub mod Inner
pub mod Items
pub mod Written
