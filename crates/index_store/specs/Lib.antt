pub mod All
pub mod Indexes
pub mod Reading
