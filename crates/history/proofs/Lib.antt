pub mod Complete
pub mod Going
pub mod Once
pub mod Standing
pub mod Titles
