pub mod Passing
pub mod Reaching
