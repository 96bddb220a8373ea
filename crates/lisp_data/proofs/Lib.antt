pub mod OnKeys
pub mod Printing
