pub mod Naming
pub mod Stopping
