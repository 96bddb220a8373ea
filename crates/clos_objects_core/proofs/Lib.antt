pub mod Telling
pub mod Placing
pub mod Accessing
pub mod Finding
