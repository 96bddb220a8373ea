pub mod Each
pub mod Places
pub mod Times
pub mod Handed
pub mod Telling
pub mod AtPlace
pub mod Watching
