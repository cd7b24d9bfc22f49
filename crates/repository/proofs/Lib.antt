-- Lemmas for the crates above.
pub mod Agreeing
pub mod BranchNames
pub mod Fits
pub mod HeadTexts
pub mod Heading
pub mod Holds
pub mod Parts
pub mod Paths
pub mod Temporary
pub mod Unfinished
