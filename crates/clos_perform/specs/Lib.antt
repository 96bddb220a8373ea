pub mod Step
pub mod Read
pub use Rattle.clos_definition_forms.specs.clos_machine as clos_machine
pub use Rattle.clos_definition_forms.specs.clos_world as clos_world
pub use Rattle.clos_definition_forms.specs.clos_eval as clos_eval
pub use Rattle.clos_definition_forms.specs.clos_native as clos_native
pub use Rattle.clos_definition_forms.specs.clos_watch as clos_watch
pub use Rattle.clos_definition_forms.specs as clos_definition_forms
