pub mod Methods
pub mod NextMethods
