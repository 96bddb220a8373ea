-- What stands behind the contracts: how the logic stores values.
pub mod TableCode
