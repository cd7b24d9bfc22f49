-- Lemmas that several answers share.
pub mod Acting
pub mod CommandLaws
pub mod Cuts
pub mod Follows
pub mod Kept
pub mod Lacking
pub mod Leads
pub mod ReadActs
pub mod Nearest
pub mod Printed
pub mod Readings
pub mod Roots
pub mod Soundly
pub mod Upwards
