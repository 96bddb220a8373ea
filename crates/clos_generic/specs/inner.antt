-- What stands behind the contracts: how the logic stores values, what is kept, what private functions answer.
pub mod TableCode
pub mod Reserved
pub mod AccessorMethods
pub mod EqlObjects
