pub mod NamesBehind
pub mod Parts
pub mod Quoting
pub mod Room
pub mod WellFormed
pub mod Next
