pub mod Entries
pub mod Near
pub mod Readings
pub mod Sets
