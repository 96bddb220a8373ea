pub mod inner
pub mod Pattern
pub mod PatternView
pub mod Keyword
pub mod Parameter
pub mod Group
pub mod Combination
pub use Rattle.clos_lambda.specs as clos_lambda
pub use Rattle.clos_template.specs as clos_template
