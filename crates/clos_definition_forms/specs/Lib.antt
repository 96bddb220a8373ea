pub mod Variable
pub mod Forms
pub mod Definition
pub mod Dependents
pub use Rattle.clos_eval.specs.clos_machine as clos_machine
pub use Rattle.clos_eval.specs.clos_machine.clos_world as clos_world
pub use Rattle.clos_making.specs.clos_effects.clos_definition as clos_definition
pub use Rattle.clos_eval.specs.clos_machine.clos_world.clos_generic as clos_generic
pub use Rattle.clos_eval.specs as clos_eval
pub use Rattle.clos_eval.specs.clos_native as clos_native
pub use Rattle.clos_making.specs.clos_effects.clos_watch as clos_watch
pub use Rattle.lisp_prims.specs as lisp_prims
pub use Rattle.clos_making.specs.clos_effects as clos_effects
pub use Rattle.clos_making.specs as clos_making
