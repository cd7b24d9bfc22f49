pub mod Acts
pub mod All
pub mod Ends
pub mod Files
pub mod Reads
pub mod Remains
