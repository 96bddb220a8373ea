pub mod Names
pub mod Special
pub mod Callee
