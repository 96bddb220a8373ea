-- What stands behind the contract: what the private functions do.
pub mod Ranks
pub mod Ranking
