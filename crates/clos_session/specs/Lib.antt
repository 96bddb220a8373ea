pub mod Session
pub mod Uses
pub mod Definitions
pub mod Notices
pub use Rattle.clos_perform.specs as clos_perform
pub use Rattle.clos_perform.specs.clos_machine as clos_machine
pub use Rattle.clos_perform.specs.clos_world as clos_world
pub use Rattle.clos_perform.specs.clos_eval as clos_eval
pub use Rattle.clos_perform.specs.clos_native as clos_native
pub use Rattle.clos_perform.specs.clos_watch as clos_watch
pub use Rattle.clos_perform.specs.clos_definition_forms as clos_definition_forms
