pub mod Designators
pub mod Slots
