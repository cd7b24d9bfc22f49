pub mod All
pub mod Ground
pub mod Names
pub mod Order
pub mod Ordered
