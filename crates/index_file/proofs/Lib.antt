pub mod EntryTexts
pub mod Fronts
pub mod Pieces
pub mod Places
pub mod Readings
pub mod Runs
pub mod Written
