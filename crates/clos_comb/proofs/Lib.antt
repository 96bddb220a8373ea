pub mod Lists
pub mod StandardForm
pub mod Refused
pub mod Tables
pub mod Expanded
pub mod Agreeing
pub mod Left
