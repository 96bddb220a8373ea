pub use Rattle.lisp_functions.specs as lisp_functions
pub mod Arguments
pub mod Arithmetic
pub mod Comparison
pub mod Fault
pub mod Lists
pub mod Predicates
pub mod Primitive
pub mod Rounding
pub mod Width
