pub use Rattle.clos_defclass.specs as clos_defclass
pub mod FunctionName
pub mod Method
pub mod Function
pub mod Variable
pub mod Slot
pub mod Class
pub mod Generic
pub mod Laws
pub mod WellFormed
