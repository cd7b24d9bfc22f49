pub mod All
pub mod Lines
pub mod Texts
pub mod Topics
