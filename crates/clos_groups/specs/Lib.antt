pub mod Group
pub mod Key
pub mod Refusal
pub mod RefusalView
pub mod Laws
pub use Rattle.clos_combination.specs as clos_combination
pub use Rattle.clos_combination.specs.clos_lambda as clos_lambda
pub use Rattle.clos_combination.specs.clos_template as clos_template
pub use Rattle.clos_method.specs as clos_method
