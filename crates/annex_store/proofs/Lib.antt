mod Firsts
pub mod Fitting
pub mod Honest
pub mod Keeps
pub mod KeyPaths
mod KeptAll
mod Laid
mod Notes
pub mod Sets
mod Stored
