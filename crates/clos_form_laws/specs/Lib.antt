pub mod Shapes
pub mod Kept
pub mod Evaluated
