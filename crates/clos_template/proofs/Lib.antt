pub mod Trees
pub mod Nesting
pub mod Scopes
pub mod Arguments
pub mod Expanding
