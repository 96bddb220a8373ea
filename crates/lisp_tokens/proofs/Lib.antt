pub mod OnComments
pub mod OnFront
pub mod OnGaps
pub mod OnStrings
pub mod OnTokens
