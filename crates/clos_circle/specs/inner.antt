pub mod Upward
pub mod Before
