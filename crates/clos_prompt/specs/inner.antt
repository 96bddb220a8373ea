-- What stands behind the contract: what the private functions do.
pub mod Loop
