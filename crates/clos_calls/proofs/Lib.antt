pub mod Settled
pub mod Dispatching
pub mod Counted
