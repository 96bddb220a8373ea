pub mod WhereGiven
pub mod Laws
pub mod WellFormed
