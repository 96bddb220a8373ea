pub mod Named
pub mod Taken
pub mod Unset
