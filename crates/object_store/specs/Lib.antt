pub mod All
pub mod Files
pub mod Looks
pub mod Objects
pub mod Prefixes
pub mod PutActs
pub mod Puts
pub mod Reads
