-- What stands behind the contracts: how the logic stores keys and what is kept under them.
pub mod KeyCode
pub mod CacheCode
