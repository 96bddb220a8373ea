pub mod Made
pub mod Function
pub mod Combination
pub use Rattle.clos_effects.specs as clos_effects
