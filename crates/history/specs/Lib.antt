pub mod All
pub mod Complete
pub mod Logs
