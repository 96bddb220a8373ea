mod Among
pub mod Ambiguity
pub mod First
