pub mod Slots
pub mod SlotsView
pub mod inner
pub mod Laws
pub mod Table
pub mod Examples
pub use Rattle.clos_defclass.specs as clos_defclass
