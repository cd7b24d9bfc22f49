pub mod All
pub mod Kept
pub mod Laws
pub mod Limits
pub mod Paths
