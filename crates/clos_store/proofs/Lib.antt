pub mod Noting
pub mod Slots
pub mod Updating
