pub mod Accessing
pub mod Nexting
