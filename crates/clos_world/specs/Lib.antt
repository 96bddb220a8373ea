pub mod Hearing
pub mod Limits
pub mod Values
pub mod Class
pub mod Condition
pub mod Globals
pub mod GlobalsView
pub mod Functions
pub mod World
pub mod Dispatch
pub mod Keys
pub mod Kept
pub mod Uses
pub mod Initial
pub mod FunctionName
pub mod Definitions
pub use Rattle.clos_precedence.specs as clos_precedence
pub use Rattle.clos_hierarchy.specs as clos_hierarchy
pub use Rattle.clos_class.specs as clos_class
pub use Rattle.clos_store.specs as clos_store
pub use Rattle.clos_method.specs as clos_method
pub use Rattle.clos_generic.specs as clos_generic
pub use Rattle.clos_comb.specs as clos_comb
pub use Rattle.clos_lambda.specs as clos_lambda
pub use Rattle.clos_watch.specs as clos_watch
pub use Rattle.clos_cache.specs as clos_cache
