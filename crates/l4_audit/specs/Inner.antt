pub mod Audited
pub mod Auditing
pub mod Delivering
pub mod Due
pub mod Owing
pub mod Phases
pub mod Stillness
pub mod Taking
