pub mod Lists
pub mod Apart
pub mod Turns
pub mod Tails
pub mod Quiet
pub mod Runs
pub mod Answering
pub mod Updates
pub mod Uses
pub use Rattle.clos_meaning.proofs as clos_meaning
