pub mod Aimed
pub mod Contacts
pub mod Sets
