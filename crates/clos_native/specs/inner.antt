-- What stands behind the contracts.
pub mod Facts
