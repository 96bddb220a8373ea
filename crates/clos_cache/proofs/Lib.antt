pub mod Places
pub mod Finding
pub mod Keeping
pub mod Dropping
pub mod Counting
