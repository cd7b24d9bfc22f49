-- The forms in memory of files and of outputs: what they keep, and which of their calls fail.
pub mod Calls
pub mod Disk
pub mod Files
pub mod Images
pub mod Lists
pub mod Moment
pub mod Plan
pub mod Sink
pub mod Turns
