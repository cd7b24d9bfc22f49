pub mod Agree
pub mod All
pub mod Heads
pub mod Held
pub mod Layout
pub mod Limits
pub mod Unfinished
