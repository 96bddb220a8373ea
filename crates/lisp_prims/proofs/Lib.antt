pub mod OnNumbers
pub mod OnQuotients
pub mod OnEquality
pub mod OnMaking
pub mod OnRounding
pub mod OnSizes
pub mod OnFaults
