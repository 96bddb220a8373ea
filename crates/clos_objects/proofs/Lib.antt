pub mod Making
pub mod Methods
pub mod Changing
pub mod Designating
