pub mod Lists
pub mod Kept
pub mod Parts
pub mod Shapes
pub mod Standing
pub mod Evaluated
