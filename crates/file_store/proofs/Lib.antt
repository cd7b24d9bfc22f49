pub mod Ascending
pub mod Images
pub mod Moments
pub mod Consequences
pub mod Course
pub mod ManyFiles
pub mod Rounds
mod Renames
pub mod Staging
mod Effects
mod Chosen
pub mod Counted
mod Gathered
mod Kept
mod Laid
mod Listings
mod Moves
mod Named
pub mod OneFile
pub mod Removals
mod Noted
mod Stored
mod Writes
