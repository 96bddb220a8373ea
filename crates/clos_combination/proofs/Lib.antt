pub mod Equal
pub use Rattle.clos_lambda.proofs as clos_lambda
pub use Rattle.clos_template.proofs as clos_template
